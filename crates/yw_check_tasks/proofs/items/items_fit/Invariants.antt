use Rattle.yw_accept.proofs.Loops.{SoFar}
use Rattle.yw_check_tasks.specs.Steps.{NetItemsFit}
use Rattle.yw_check_tasks.proofs.items.items_fit.Given as goal

abbrev pub invariant-loop-net : goal.invariant-loop-net
invariant-loop-net l = SoFar NetItemsFit l.raw.net l.net-index
