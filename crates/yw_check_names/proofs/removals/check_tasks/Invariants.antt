use Rattle.yw_accept.specs.Names.{RemovalFits}
use Rattle.yw_accept.proofs.Loops.{SoFar}
use Rattle.yw_check_names.proofs.removals.check_tasks.Given as goal

abbrev pub invariant-loop-task : goal.invariant-loop-task
invariant-loop-task l = SoFar (RemovalFits l.net) l.tasks l.task-index
