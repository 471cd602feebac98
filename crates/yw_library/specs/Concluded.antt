-- What a rule may conclude, part by part.
use Rattle.std.specs.Prelude.{◌&&◌, Bool, List, length, nat_le, nat_lt, not}
use Rattle.yw_state.specs.NewRule.{are_fit, is_known, is_of_item, most_primitives}
use Rattle.yw_state.specs.State.{State}
use Rattle.yw_state.specs.declared.tree.Primitive.{Primitive}

-- the primitive is known, and isn't of an item where the tree is a case's
abbrev pub is_fit : State → Bool → Primitive → Bool
is_fit s of_case p = is_known s p && not (of_case && is_of_item p)

-- 1 to 16 primitives that are fit
abbrev pub may_be_exlet : State → Bool → List Primitive → Bool
may_be_exlet s of_case ps = nat_lt 0 (length ps) && nat_le (length ps) most_primitives && are_fit s of_case ps
