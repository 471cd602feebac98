use Rattle.std.specs.Prelude.{◌≡◌, ◌<◌, ℕ, Some, slice_get}
use Rattle.yw_proper.proofs.certificate.check_tasks.Given as goal
use Rattle.yw_proper.specs.Proper.{TaskIsProper, weight_of_task}
use Rattle.yw_spec.specs.declared.task.Task.{Task}

abbrev pub invariant-loop-k : goal.invariant-loop-k
invariant-loop-k l = (j : ℕ) (t : Task) → j < l.k → slice_get l.net.tasks j ≡ Some t → TaskIsProper l.weights (weight_of_task l.net l.weights j) t
