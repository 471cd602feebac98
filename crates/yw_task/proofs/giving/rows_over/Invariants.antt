use Rattle.std.proofs.Common.{Some, map, take, ◌≡◌}
use Rattle.yw_base.specs.Values.{value_of}
use Rattle.yw_state.specs.Options.{all_of}
use Rattle.yw_state.specs.Passing.{given_values}
use Rattle.yw_task.proofs.giving.rows_over.Given as goal
use Rattle.yw_task.specs.Giving.{elements}

abbrev pub invariant-loop-k : goal.invariant-loop-k
invariant-loop-k l = all_of (map (given_values l.task l.vals) (take l.k (map Some (elements (value_of l.list))))) ≡ Some l.rows.items
