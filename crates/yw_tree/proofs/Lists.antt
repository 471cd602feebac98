-- Each of a list, by places.
use Rattle.std.proofs.Common.{List, Some, [], arith, length, refl, subst, suc, zero, ℕ, ⊎_elim, ◌+◌, ◌<◌, ◌∷◌, ◌≡◌, ◌≤◌}
use Rattle.std.proofs.lemmas.Bool.{cases_lt}
use Rattle.std.specs.Prelude.{slice_get}
use Rattle.yw_sites.specs.Idents.{Each}

-- each below a place
abbrev pub EachBelow : {A : Type 0} → (A → Type 0) → List A → ℕ → Type 0
EachBelow {A} P xs i = (k : ℕ) (x : A) → k < i → slice_get xs k ≡ Some x → P x

pub each_all : {A : Type 0} (P : A → Type 0) (xs : List A) → EachBelow P xs (length xs) → Each P xs
each_all P [] h = tt
each_all P (x ∷ xs) h = (h zero x (omega arith) refl, each_all P xs (λ k y l e. h (suc k) y (omega arith) e))

pub below_more : {A : Type 0} (P : A → Type 0) (xs : List A) (i : ℕ) (x : A) → EachBelow P xs i → slice_get xs i ≡ Some x → P x → EachBelow P xs (i + 1)
below_more P xs i x h e p k y l f =
    ⊎_elim (λ (q : k < i). h k y q f)
    (λ (q : i ≤ k).
    let s : i ≡ k = omega arith in
    let t : slice_get xs k ≡ Some x = subst (λ j. slice_get xs j ≡ Some x) s e in
    let u : x ≡ y = cc in
    subst P u p)
    (cases_lt k i)
