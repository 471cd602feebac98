-- What is under what.
use Rattle.std.specs.Prelude.{◌≡◌, ◌≤◌, ℕ, ◌+◌, ◌==◌, Bool, true, not, [], ◌∷◌, length, refl}
use Rattle.std.specs.List.{list_all}
use Rattle.std.proofs.Common.{sym, ◌∙◌, ap, arith}
use Rattle.std.proofs.lemmas.Bool.{and_from, and_parts, eq-eqb, eqb-true, false_from_ne_true, not-true, not_from_false}
use Rattle.yw_base.specs.Identity.{is_identity, under, case_number, parent}
use Rattle.yw_state.proofs.MapLemmas.{never}
use Rattle.yw_state.specs.Identity.{Ident, case_ident}

pub shorter : (k : Ident) → 1 ≤ length k → length k ≡ length (parent k) + 1
shorter [] some = absurd (omega arith)
shorter (x ∷ []) some = refl
shorter (x ∷ y ∷ ys) some = let rest = shorter (y ∷ ys) (omega arith) in omega (arith, rest)

pub under_parent : (k j : Ident) → under (parent k) j ≡ true → under k j ≡ true
under_parent k [] e = refl
under_parent [] (m ∷ j) e = e
under_parent (x ∷ []) (m ∷ j) e = never e
under_parent (x ∷ y ∷ ys) (m ∷ j) e =
    let parts = and_parts (m == x) (under (parent (y ∷ ys)) j) e in and_from _ _ parts.0 (under_parent (y ∷ ys) j parts.1)

-- what isn't under j stands at nothing under j
pub outside : (j k : Ident) → not (under k j) ≡ true → not (under (parent k) j) ≡ true
outside j k e = not_from_false _ (false_from_ne_true _ (λ above. never (sym (not-true _ e) ∙ under_parent k j above)))

-- what isn't under a case is of another
pub other_case : (k : Ident) (n : ℕ) → is_identity k ≡ true → not (under k (case_ident n)) ≡ true → ¬ (case_number k ≡ n)
other_case [] n is out same = never is
other_case (x ∷ k) n is out same = never (sym (not-true _ out) ∙ and_from (n == x) true (eq-eqb n x (sym same)) refl)

-- what holds of all numbers of an identity, holds of those above it
pub all_above : (p : ℕ → Bool) (k j : Ident) → under k j ≡ true → list_all p k ≡ true → list_all p j ≡ true
all_above p k [] above e = refl
all_above p [] (m ∷ j) above e = never above
all_above p (x ∷ k) (m ∷ j) above e =
    let lies = and_parts (m == x) (under k j) above in
    let each = and_parts (p x) (list_all p k) e in
    and_from _ _ (ap p (eqb-true m x lies.0) ∙ each.0) (all_above p k j lies.1 each.1)

pub all_parent : (p : ℕ → Bool) (k : Ident) → list_all p k ≡ true → list_all p (parent k) ≡ true
all_parent p [] e = refl
all_parent p (x ∷ []) e = refl
all_parent p (x ∷ y ∷ ys) e =
    let each = and_parts (p x) (list_all p (y ∷ ys)) e in and_from _ _ each.0 (all_parent p (y ∷ ys) each.1)
