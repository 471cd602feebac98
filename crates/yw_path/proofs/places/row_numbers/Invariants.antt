use Rattle.yw_path.proofs.places.row_numbers.Given as goal
use Rattle.yw_path.specs.Places.{HaveRows}

abbrev pub invariant-loop-tasks : goal.invariant-loop-tasks
invariant-loop-tasks l = HaveRows l.tasks-index l.into l.fn.rows.items l.rows.items l.numbers.items
