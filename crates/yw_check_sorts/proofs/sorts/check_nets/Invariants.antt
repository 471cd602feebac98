use Rattle.yw_accept.proofs.Loops.{SoFar}
use Rattle.yw_check_sorts.specs.Fitting.{NetSortsFit}
use Rattle.yw_check_sorts.proofs.sorts.check_nets.Given as goal

abbrev pub invariant-loop-net : goal.invariant-loop-net
invariant-loop-net l = SoFar NetSortsFit l.nets l.net-index
