use Rattle.yw_accept.proofs.Loops.{SoFar}
use Rattle.yw_check_sorts.specs.Fitting.{TaskSortsFit}
use Rattle.yw_check_sorts.proofs.sorts.check_net.Given as goal

abbrev pub invariant-loop-task : goal.invariant-loop-task
invariant-loop-task l = SoFar (TaskSortsFit l.net) l.net.task l.task-index
