-- What is found at a place of a list.
use Rattle.std.proofs.Common.{List, None, Some, [], ap, inl, inr, length, refl, suc, sym, zero, ℕ, ◌++◌, ◌<◌, ◌∷◌, ◌≡◌, ◌⊎◌, ◌≤◌, arith}
use Rattle.std.proofs.lemmas.Option.{slice_get_within}
use Rattle.std.specs.Prelude.{slice_get}
use Rattle.yw_state.proofs.Tests.{nowhere, some_same}

-- what stands in a list stands there with others behind it
pub at_front : {A : Type 0} (xs ys : List A) (k : ℕ) (x : A) → slice_get xs k ≡ Some x → slice_get (xs ++ ys) k ≡ Some x
at_front [] ys k x e = nowhere e
at_front (z ∷ xs) ys zero x e = e
at_front (z ∷ xs) ys (suc k) x e = at_front xs ys k x e

-- with one more at the end, it stood there before or is that one
pub at_push : {A : Type 0} (xs : List A) (x : A) (k : ℕ) (y : A) → slice_get (xs ++ x ∷ []) k ≡ Some y → (slice_get xs k ≡ Some y) ⊎ ((k ≡ length xs) × (x ≡ y))
at_push [] x zero y e = inr (refl, some_same x y e)
at_push [] x (suc k) y e = nowhere e
at_push (z ∷ xs) x zero y e = inl e
at_push {A} (z ∷ xs) x (suc k) y e = by (at_push xs x k y e)
  where
    by : (slice_get xs k ≡ Some y) ⊎ ((k ≡ length xs) × (x ≡ y)) → (slice_get xs k ≡ Some y) ⊎ ((suc k ≡ suc (length xs)) × (x ≡ y))
    by (inl h) = inl h
    by (inr h) = inr (ap suc h.0, h.1)

-- nothing stands past the end
pub not_past : {A B : Type 0} (xs : List A) (k : ℕ) (x : A) → slice_get xs k ≡ Some x → length xs ≤ k → B
not_past xs k x e past = absurd (let within = slice_get_within xs k x e in omega arith)

-- something stands before it
pub not_before : {A B : Type 0} (xs : List A) (k : ℕ) → slice_get xs k ≡ None → k < length xs → B
not_before [] k e within = absurd (omega (arith, within))
not_before (x ∷ xs) zero e within = nowhere (sym e)
not_before (x ∷ xs) (suc k) e within = not_before xs k e (omega (arith, within))
