-- What lies directly above what.
use Rattle.std.specs.Prelude.{◌≡◌, ◌≤◌, ◌⊎◌, ℕ, ◌+◌, ◌==◌, true, false, [], ◌∷◌, length, refl}
use Rattle.std.proofs.Common.{sym, ◌∙◌, ap, inl, inr, arith}
use Rattle.std.proofs.lemmas.Bool.{and_from, and_parts, eq-eqb, eqb-true, false_from_ne_true}
use Rattle.std.proofs.lemmas.Slice.Eq.{bytes_eq-Decides}
use Rattle.yw_base.specs.Identity.{under, child, parent}
use Rattle.yw_state.proofs.Tests.{never}
use Rattle.yw_state.specs.Identity.{Ident, is_child, same}

pub same_itself : (j : Ident) → same j j ≡ true
same_itself j = (bytes_eq-Decides j j).1 refl

pub is_same : (k j : Ident) → same k j ≡ true → k ≡ j
is_same k j e = (bytes_eq-Decides k j).0 e

pub apart : (k j : Ident) → same k j ≡ false → ¬ (k ≡ j)
apart k j other e = never (sym other ∙ (bytes_eq-Decides k j).1 e)

pub parent_child : (i : Ident) (n : ℕ) → parent (child i n) ≡ i
parent_child [] n = refl
parent_child (x ∷ []) n = refl
parent_child (x ∷ y ∷ ys) n = ap (λ i. x ∷ i) (parent_child (y ∷ ys) n)

pub parent_of_child : (k j : Ident) → is_child k j ≡ true → parent k ≡ j
parent_of_child k j e =
    let parts = and_parts (under k j) (length k == length j + 1) e in front k j parts.0 (eqb-true (length k) (length j + 1) parts.1)
  where
    front : (k j : Ident) → under k j ≡ true → length k ≡ length j + 1 → parent k ≡ j
    front [] j lies long = absurd (omega (arith, long))
    front (x ∷ []) [] lies long = refl
    front (x ∷ y ∷ ys) [] lies long = absurd (omega (arith, long))
    front (x ∷ []) (m ∷ j) lies long = absurd (omega (arith, long))
    front (x ∷ y ∷ ys) (m ∷ j) lies long =
        let parts = and_parts (m == x) (under (y ∷ ys) j) lies in
        let rest = front (y ∷ ys) j parts.1 (omega (arith, long)) in
        ap (λ n. n ∷ parent (y ∷ ys)) (sym (eqb-true m x parts.0)) ∙ ap (λ i. m ∷ i) rest

pub under_itself : (j : Ident) → under j j ≡ true
under_itself [] = refl
under_itself (x ∷ j) = and_from _ _ (eq-eqb x x refl) (under_itself j)

-- what k lies under is k, or what is above it lies under that too
pub itself_or_above : (k q : Ident) → under k q ≡ true → (k ≡ q) ⊎ (under (parent k) q ≡ true)
itself_or_above k [] lies = inr refl
itself_or_above [] (m ∷ q) lies = never lies
itself_or_above (x ∷ []) (m ∷ []) lies = inl (ap (λ n. n ∷ []) (sym (eqb-true m x (and_parts (m == x) true lies).0)))
itself_or_above (x ∷ []) (m ∷ n ∷ q) lies = never (and_parts (m == x) false lies).1
itself_or_above (x ∷ y ∷ ys) (m ∷ q) lies =
    let parts = and_parts (m == x) (under (y ∷ ys) q) lies in
    elim (itself_or_above (y ∷ ys) q parts.1) [
      | inl e ↦ inl (ap (λ n. n ∷ y ∷ ys) (sym (eqb-true m x parts.0)) ∙ ap (λ i. m ∷ i) e)
      | inr e ↦ inr (and_from _ _ parts.0 e)
    ]

as_long : (k j : Ident) → under k j ≡ true → length j ≤ length k
as_long k [] lies = omega arith
as_long [] (m ∷ j) lies = never lies
as_long (x ∷ k) (m ∷ j) lies = let rest = as_long k j (and_parts (m == x) (under k j) lies).1 in omega (arith, rest)

-- what lies below isn't above
pub not_under_child : (q i : Ident) → is_child q i ≡ true → under i q ≡ false
not_under_child q i e =
    let long = eqb-true (length q) (length i + 1) (and_parts (under q i) (length q == length i + 1) e).1 in
    false_from_ne_true (under i q) (λ above. let short = as_long i q above in absurd (omega (arith, long, short)))
