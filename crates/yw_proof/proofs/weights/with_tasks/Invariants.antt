use Rattle.std.proofs.Common.{◌≡◌, ◌++◌, map, take}
use Rattle.yw_proof.specs.Weights.{task_name}
use Rattle.yw_proof.proofs.weights.with_tasks.Given as goal

-- what was there, and the names of the tasks so far
abbrev pub invariant-loop-task : goal.invariant-loop-task
invariant-loop-task l = l.all ≡ l.fn.names ++ map task_name (take l.task-index l.tasks)
