use Rattle.yw_accept.proofs.Loops.{SoFar}
use Rattle.yw_check_tasks.specs.Steps.{NetSplitsFit}
use Rattle.yw_check_tasks.proofs.splits.splits_fit.Given as goal

abbrev pub invariant-loop-net : goal.invariant-loop-net
invariant-loop-net l = SoFar NetSplitsFit l.raw.net l.net-index
