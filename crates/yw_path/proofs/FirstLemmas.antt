-- What the first elements of a list have.
use Rattle.std.proofs.Common.{◌≡◌, ℕ, ◌+◌, ◌<◌, ◌⊎◌, inl, inr, List, [], ◌∷◌, ◌++◌, length, get_or, take, sym, subst, arith}
use Rattle.std.specs.Prelude.{Contains}
use Rattle.std.proofs.lemmas.List.{take_more}
use Rattle.std.proofs.lemmas.List.Elements.{Contains-append_left, Contains-push, Contains-push_cases}

pub contains-nil : {A : Type 0} (x : A) → Contains [] x → ⊥
contains-nil x (k, lt, e) = absurd (omega (arith, lt))

-- one element more
module _ (xs : List ℕ) (i : ℕ) (lt : i < length xs) where
  pub first_keeps : (x : ℕ) → Contains (take i xs) x → Contains (take (i + 1) xs) x
  first_keeps x h = let P : List ℕ → Type 0 = λ ys. Contains ys x in subst P (sym (take_more xs i 0 lt)) (Contains-append_left (take i xs) (get_or xs i 0 ∷ []) x h)

  pub first_has : (x : ℕ) → x ≡ get_or xs i 0 → Contains (take (i + 1) xs) x
  first_has x e = let P : ℕ → List ℕ → Type 0 = λ y ys. Contains ys y in
      subst (λ ys. P x ys) (sym (take_more xs i 0 lt)) (subst (λ y. P y (take i xs ++ get_or xs i 0 ∷ [])) (sym e) (Contains-push (take i xs) (get_or xs i 0)))

  pub first_cases : (x : ℕ) → Contains (take (i + 1) xs) x → Contains (take i xs) x ⊎ (x ≡ get_or xs i 0)
  first_cases x h =
      let P : List ℕ → Type 0 = λ ys. Contains ys x in
      elim (Contains-push_cases (take i xs) (get_or xs i 0) x (subst P (take_more xs i 0 lt) h)) [ inl was ↦ inl was | inr is ↦ inr (sym is) ]
