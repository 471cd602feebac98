use Rattle.yw_accept.proofs.Loops.{SoFar}
use Rattle.yw_check_tasks.specs.Steps.{TaskItemsFit}
use Rattle.yw_check_tasks.proofs.items.check_net.Given as goal

abbrev pub invariant-loop-task : goal.invariant-loop-task
invariant-loop-task l = SoFar (TaskItemsFit l.net.name) l.net.task l.task-index
