use Rattle.std.proofs.Common.{◌∙◌, append_assoc}
use Rattle.yw_serve.specs.Bench.{start_line}
use Rattle.yw_serve.proofs.bench_lines.start_line.Goals as goal

pub returns : goal.returns
unfolding start_line
returns c = c.in_ok-format.ensures.ok ∙ simp append_assoc
