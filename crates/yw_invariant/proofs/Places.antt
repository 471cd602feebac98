-- What lies strictly under what.
use Rattle.std.specs.Prelude.{◌≡◌, ◌≤◌, ◌+◌, ◌==◌, ◌&&◌, Bool, true, false, not, [], ◌∷◌, length, refl}
use Rattle.std.proofs.Common.{sym, ◌∙◌, ap, inl, inr, arith}
use Rattle.std.proofs.lemmas.Bool.{and_from, and_parts, eq-eqb, cases_lt, eqb-true, false_from_ne_true, not-true, not_from_false}
use Rattle.std.proofs.lemmas.Slice.Eq.{bytes_eq-Decides}
use Rattle.yw_base.specs.Identity.{under, case_number, parent}
use Rattle.yw_state.proofs.MapLemmas.{never}
use Rattle.yw_state.proofs.Under as below
pub use Rattle.yw_state.proofs.Under.{shorter}
use Rattle.yw_state.specs.Identity.{Ident, case_ident, is_case_ident, is_child, same, strictly_under}

pub under_parent : (k : Ident) → under k (parent k) ≡ true
under_parent [] = refl
under_parent (x ∷ []) = refl
under_parent (x ∷ y ∷ ys) = and_from _ _ (eq-eqb x x refl) (under_parent (y ∷ ys))

-- what has another length is another
other_length : (k j : Ident) → ¬ (length k ≡ length j) → same k j ≡ false
other_length k j other = false_from_ne_true _ (λ e. other (ap (λ (i : Ident). length i) ((bytes_eq-Decides k j).0 e)))

pub strictly_under_parent : (k : Ident) → 1 ≤ length k → strictly_under k (parent k) ≡ true
strictly_under_parent k some =
    let more = shorter k some in and_from _ _ (under_parent k) (not_from_false _ (other_length k (parent k) (λ e. absurd (omega (arith, more, e)))))

at_least_as_long : (k j : Ident) → under k j ≡ true → length j ≤ length k
at_least_as_long k [] e = omega arith
at_least_as_long [] (m ∷ j) e = never e
at_least_as_long (x ∷ k) (m ∷ j) e = let rest = at_least_as_long k j (and_parts (m == x) (under k j) e).1 in omega (arith, rest)

-- what is above something that isn't strictly under j isn't either
above : (k j : Ident) → strictly_under (parent k) j ≡ true → strictly_under k j ≡ true
above [] j e = e
above (x ∷ xs) j e =
    let k = x ∷ xs in
    let lies = (and_parts (under (parent k) j) (not (same (parent k) j)) e).0 in
    let long = at_least_as_long (parent k) j lies in
    let more = shorter k (omega arith) in
    and_from _ _ (below.under_parent k j lies) (not_from_false _ (other_length k j (λ same_length. absurd (omega (arith, long, more, same_length)))))

pub stays_above : (j k : Ident) → not (strictly_under k j) ≡ true → not (strictly_under (parent k) j) ≡ true
stays_above j k e = not_from_false _ (false_from_ne_true _ (λ lies. never (sym (not-true _ e) ∙ above k j lies)))

pub not_under_itself : (j : Ident) → strictly_under j j ≡ false
not_under_itself j = no_second (under j j) (ap not ((bytes_eq-Decides j j).1 refl))
  where
    no_second : (a : Bool) {b : Bool} → b ≡ false → (a && b) ≡ false
    no_second true e = e
    no_second false e = refl

pub deep_is_no_case : (j : Ident) → 2 ≤ length j → is_case_ident j ≡ false
deep_is_no_case j deep = false_from_ne_true _ (λ e. let one = eqb-true (length j) 1 e in absurd (omega (arith, one)))

pub under_itself : (j : Ident) → under j j ≡ true
under_itself [] = refl
under_itself (x ∷ j) = and_from _ _ (eq-eqb x x refl) (under_itself j)

-- what lies under j and isn't j
pub strictly_under_other : (k j : Ident) → ¬ (k ≡ j) → strictly_under k j ≡ under k j
strictly_under_other k j other = without_second (under k j) (ap not (false_from_ne_true _ (λ e. other ((bytes_eq-Decides k j).0 e))))
  where
    without_second : (a : Bool) {b : Bool} → b ≡ true → (a && b) ≡ a
    without_second true e = e
    without_second false e = refl

pub parent_of_child : (k j : Ident) → is_child k j ≡ true → parent k ≡ j
parent_of_child k j e =
    let parts = and_parts (under k j) (length k == length j + 1) e in front k j parts.0 (eqb-true (length k) (length j + 1) parts.1)
  where
    front : (k j : Ident) → under k j ≡ true → length k ≡ length j + 1 → parent k ≡ j
    front [] j lies long = absurd (omega (arith, long))
    front (x ∷ []) [] lies long = refl
    front (x ∷ y ∷ ys) [] lies long = absurd (omega (arith, long))
    front (x ∷ []) (m ∷ j) lies long = absurd (omega (arith, long))
    front (x ∷ y ∷ ys) (m ∷ j) lies long =
        let parts = and_parts (m == x) (under (y ∷ ys) j) lies in
        let rest = front (y ∷ ys) j parts.1 (omega (arith, long)) in
        ap (λ n. n ∷ parent (y ∷ ys)) (sym (eqb-true m x parts.0)) ∙ ap (λ i. m ∷ i) rest

-- what lies under j and is as long, is j
as_long_is_same : (k j : Ident) → under k j ≡ true → length k ≡ length j → k ≡ j
as_long_is_same [] [] lies long = refl
as_long_is_same [] (m ∷ j) lies long = never lies
as_long_is_same (x ∷ k) [] lies long = absurd (omega (arith, long))
as_long_is_same (x ∷ k) (m ∷ j) lies long =
    let parts = and_parts (m == x) (under k j) lies in
    ap (λ n. n ∷ k) (sym (eqb-true m x parts.0)) ∙ ap (λ i. m ∷ i) (as_long_is_same k j parts.1 (omega (arith, long)))

pub longer_below : (k j : Ident) → strictly_under k j ≡ true → length j + 1 ≤ length k
longer_below k j e =
    let parts = and_parts (under k j) (not (same k j)) e in
    let long = at_least_as_long k j parts.0 in
    elim (cases_lt (length j) (length k)) [
      | inl lt ↦ omega (arith, lt)
      | inr le ↦ never (sym (not-true _ parts.1) ∙ (bytes_eq-Decides k j).1 (as_long_is_same k j parts.0 (omega (arith, long, le))))
    ]

-- what lies strictly under j has its parent under j
pub parent_below : (k j : Ident) → strictly_under k j ≡ true → under (parent k) j ≡ true
parent_below k j e = front k j (and_parts (under k j) (not (same k j)) e).0 (longer_below k j e)
  where
    front : (k j : Ident) → under k j ≡ true → length j + 1 ≤ length k → under (parent k) j ≡ true
    front k [] lies long = refl
    front [] (m ∷ j) lies long = never lies
    front (x ∷ []) (m ∷ j) lies long = absurd (omega (arith, long))
    front (x ∷ y ∷ ys) (m ∷ j) lies long =
        let parts = and_parts (m == x) (under (y ∷ ys) j) lies in and_from _ _ parts.0 (front (y ∷ ys) j parts.1 (omega (arith, long)))

pub case_of_parent : (k : Ident) → 2 ≤ length k → case_number (parent k) ≡ case_number k
case_of_parent [] deep = absurd (omega arith)
case_of_parent (x ∷ []) deep = absurd (omega arith)
case_of_parent (x ∷ y ∷ ys) deep = refl

pub is_its_case : (k : Ident) → is_case_ident k ≡ true → k ≡ case_ident (case_number k)
is_its_case [] e = let one = eqb-true 0 1 e in absurd (omega (arith, one))
is_its_case (x ∷ []) e = refl
is_its_case (x ∷ y ∷ ys) e = let one = eqb-true (length (x ∷ y ∷ ys)) 1 e in absurd (omega (arith, one))

pub under_its_case : (k : Ident) → 1 ≤ length k → under k (case_ident (case_number k)) ≡ true
under_its_case [] some = absurd (omega arith)
under_its_case (x ∷ k) some = and_from _ _ (eq-eqb x x refl) refl
