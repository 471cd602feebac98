-- How cases ended, as a state has it.
use Rattle.std.specs.Ordering.{nat_cmp}
use Rattle.std.specs.Prelude.{List, ℕ}
use Rattle.yw_state.specs.Map.{Map, of_entries}
use Rattle.yw_state.specs.declared.part.Way.{Way}

-- the map of these entries
abbrev pub ended_of : List (ℕ × Way) → Map nat_cmp Way
ended_of es = of_entries {R = nat_cmp} es
