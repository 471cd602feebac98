use Rattle.std.proofs.Common.{◌∙◌, append_assoc}
use Rattle.yw_serve.specs.Bench.{complete_line}
use Rattle.yw_serve.proofs.bench_lines.complete_line.Goals as goal

pub returns : goal.returns
unfolding complete_line
returns c = c.in_ok-format.ensures.ok ∙ simp append_assoc
