use Rattle.yw_accept.proofs.Loops.{SoFar}
use Rattle.yw_accept.specs.Tasks.{SplitFits}
use Rattle.yw_check_tasks.proofs.splits.check_net.Given as goal

abbrev pub invariant-loop-task : goal.invariant-loop-task
invariant-loop-task l = SoFar (SplitFits l.net) l.net.task l.task-index
