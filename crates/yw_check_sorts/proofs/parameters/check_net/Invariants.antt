use Rattle.yw_accept.proofs.Loops.{SoFar}
use Rattle.yw_check_sorts.specs.Agreeing.{TaskParametersAgree}
use Rattle.yw_check_sorts.proofs.parameters.check_net.Given as goal

abbrev pub invariant-loop-task : goal.invariant-loop-task
invariant-loop-task l = SoFar (TaskParametersAgree l.raw l.net) l.net.task l.task-index
