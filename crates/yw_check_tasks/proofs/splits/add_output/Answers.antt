use Rattle.std.proofs.Common.{arith}
use Rattle.std.proofs.lemmas.Grind.{text_groups}
use Rattle.yw_check_tasks.proofs.OutputLemmas.{adds_output}
use Rattle.yw_check_tasks.proofs.splits.add_output.Goals as goal

pub returns : goal.returns
returns c = adds_output _ _ c.args.from.now c.args.to (λ q. grind (arith, text_groups))
