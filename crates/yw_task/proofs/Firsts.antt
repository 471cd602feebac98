-- The first broken check of a short table of tests.
use Rattle.std.proofs.Common.{Bool, None, Some, [], false, refl, true, ◌∷◌}
use Rattle.std.specs.Prelude.{option_map, if◌then◌else◌}
use Rattle.yw_state.specs.Broken.{First, placeless, test}
use Rattle.yw_state.specs.declared.rule.Rule.{Rule}

pub first_of_two : (a b : Bool) (p q : Rule) → First (test a p ∷ test b q ∷ []) (option_map placeless (if a then Some p else (if b then Some q else None)))
first_of_two true b p q = refl
first_of_two false true p q = refl
first_of_two false false p q = refl

pub first_of_three : (a b c : Bool) (p q r : Rule) → First (test a p ∷ test b q ∷ test c r ∷ []) (option_map placeless (if a then Some p else (if b then Some q else (if c then Some r else None))))
first_of_three true b c p q r = refl
first_of_three false b c p q r = first_of_two b c q r
