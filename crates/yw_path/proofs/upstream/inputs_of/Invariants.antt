use Rattle.std.proofs.Common.{◌≡◌, take}
use Rattle.std.specs.Prelude.{map}
use Rattle.yw_path.proofs.upstream.inputs_of.Given as goal
use Rattle.yw_spec.specs.declared.task.Task.{Task}

abbrev pub invariant-loop-task : goal.invariant-loop-task
invariant-loop-task l = l.inputs.items ≡ map (λ (t : Task). t.before) (take l.task-index l.task-items)
