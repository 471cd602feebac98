-- Where no primitive but the last is a removal, and tests in another order.
use Rattle.std.proofs.Common.{◌≡◌, ◌≤◌, ◌∙◌, ℕ, List, [], ◌∷◌, ◌++◌, Bool, true, false, ap, arith, refl, sym}
use Rattle.std.proofs.lemmas.Bool.{eqb-true}
use Rattle.std.proofs.lemmas.List.{length_push}
use Rattle.std.specs.List.{list_any}
use Rattle.std.specs.Prelude.{◌&&◌, ◌||◌, ◌==◌, length, not}
use Rattle.yw_state.proofs.Tests.{by_test}
use Rattle.yw_state.specs.NewRule.{is_removal, removes_last}
use Rattle.yw_state.specs.declared.tree.Primitive.{Primitive}

pub regrouped : (a b c d : Bool) → (a && ((b && c) && d)) ≡ (((a && b) && c) && d)
regrouped true b c d = refl
regrouped false b c d = refl

not_either : (a b : Bool) → (not a && not b) ≡ not (a || b)
not_either true b = refl
not_either false b = refl

not_zero : (n : ℕ) → 1 ≤ n → (n == 0) ≡ false
not_zero n some = by_test (n == 0) (λ e. let z : n ≡ 0 = eqb-true n 0 e in absurd (omega (arith, z, some))) (λ e. e)

-- one stands behind it, so it isn't the last
is_before : (before : List Primitive) (last : Primitive) → (length (before ++ last ∷ []) == 0) ≡ false
is_before before last = not_zero (length (before ++ last ∷ [])) (let more = length_push before last in omega (arith, more))

pub before_last : (before : List Primitive) (last : Primitive) → not (list_any is_removal before) ≡ removes_last (before ++ last ∷ [])
before_last [] last = refl
before_last (p ∷ ps) last =
    sym (not_either (is_removal p) (list_any is_removal ps))
    ∙ ap (λ b. not (is_removal p) && b) (before_last ps last)
    ∙ ap (λ b. (b || not (is_removal p)) && removes_last (ps ++ last ∷ [])) (sym (is_before ps last))
