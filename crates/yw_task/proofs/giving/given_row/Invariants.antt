use Rattle.std.proofs.Common.{map, take, Some, ◌≡◌}
use Rattle.std.specs.Prelude.{option_map}
use Rattle.yw_base.specs.Values.{value_of}
use Rattle.yw_state.specs.Options.{all_of}
use Rattle.yw_task.specs.Giving.{given_value}
use Rattle.yw_task.proofs.giving.given_row.Given as goal

abbrev pub invariant-loop-param : goal.invariant-loop-param
invariant-loop-param l = all_of (map (given_value l.vals (option_map value_of l.element)) (take l.param-index l.param-items)) ≡ Some l.row
