use Rattle.yw_accept.specs.Names.{TaskNames}
use Rattle.yw_check_names.specs.Tried.{KnowsNodes}
use Rattle.yw_check_names.proofs.Trying.{TriedSoFar}
use Rattle.yw_check_names.proofs.names.try_tasks.Given as goal

abbrev pub invariant-loop-task : goal.invariant-loop-task
invariant-loop-task l = TriedSoFar (KnowsNodes l.net) (TaskNames l.net) l.initial.seen l.seen l.tasks l.task-index
