use Rattle.yw_accept.proofs.Loops.{SoFar}
use Rattle.yw_check_tasks.specs.Steps.{TaskIsSmall}
use Rattle.yw_check_tasks.proofs.sizes.check_tasks.Given as goal

abbrev pub invariant-loop-task : goal.invariant-loop-task
invariant-loop-task l = SoFar (TaskIsSmall l.net.name) l.net.task l.task-index
