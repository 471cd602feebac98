-- The branches of a split one by one, as the code reads them: what the definitions of splits make of all branches at once.
use Rattle.std.specs.Prelude.{ℕ, ◌==◌, ◌&&◌, Bool, List, find, is_none, nat_eq, Option, option_map, if◌then◌else◌}
use Rattle.std.specs.List.{list_any}
use Rattle.std.specs.Option.{option_or}
use Rattle.yw_spec.specs.declared.task.Branch.{Branch}
use Rattle.yw_state.specs.Options.{is_some_and}
use Rattle.yw_state.specs.Passing.{is_true}
use Rattle.yw_state.specs.Values.{Row}

-- the branch has no condition
abbrev pub is_default : Branch → Bool
is_default b = is_none b.when

-- where the first branch that passes leads
abbrev pub first_to : (Branch → Bool) → List Branch → Option ℕ
first_to p bs = option_map (λ (b : Branch). b.to) (find p bs)

-- where the first true branch leads, or else the default
abbrev pub first_place : List Branch → Row → Option ℕ
first_place bs row = option_or (first_to (is_true row) bs) (first_to is_default bs)

-- it is this place
abbrev pub is_place : Option ℕ → ℕ → Bool
is_place o c = is_some_and o (nat_eq c)

-- where some branch is true, each true one is taken, and else the default
abbrev pub is_taken : Row → Bool → Branch → Bool
is_taken row some_true b = if some_true then is_true row b else is_default b

-- a branch that is taken leads to the place
abbrev pub is_reached : List Branch → Row → ℕ → Bool
is_reached bs row c = list_any (λ (b : Branch). c == b.to && is_taken row (list_any (is_true row) bs) b) bs
