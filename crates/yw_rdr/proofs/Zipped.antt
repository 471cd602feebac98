-- What is found beside another.
use Rattle.std.proofs.Common.{Bool, List, None, Option, Some, [], ap, arith, cond, false, inl, inr, length, refl, suc, sym, true, ℕ, ◌+◌, ◌∙◌, ◌∷◌, ◌≡◌}
use Rattle.std.proofs.lemmas.Bool.{cases_lt, le-ltb, lt-ltb}
use Rattle.std.specs.List.{position_or_len, zip}
use Rattle.std.specs.Prelude.{find, nat_lt, not, option_and_then, option_map, position, slice_get}

one_less : (n l : ℕ) → nat_lt (suc n) (suc l) ≡ nat_lt n l
one_less n l =
    elim (cases_lt n l) [
      | inl h ↦ lt-ltb (suc n) (suc l) (omega arith) ∙ sym (lt-ltb n l h)
      | inr h ↦ le-ltb (suc n) (suc l) (omega arith) ∙ sym (le-ltb n l h)
    ]

where_there : {B : Type 0} (vs : List B) (b : Bool) (k : ℕ) → option_and_then (slice_get vs) (cond b (Some k) None) ≡ cond b (slice_get vs k) None
where_there vs true k = refl
where_there vs false k = refl

nowhere_in : {B : Type 0} (b : Bool) (k : ℕ) → ◌≡◌ {A = Option B} (cond b (slice_get [] k) None) None
nowhere_in true k = refl
nowhere_in false k = refl

module _ {A B : Type 0} (p : A → Bool) where
  abbrev at_first : List A → List B → Option B
  at_first xs vs = cond (nat_lt (position_or_len p xs) (length xs)) (slice_get vs (position_or_len p xs)) None

  abbrev beside : List A → List B → Option B
  beside xs vs = option_map (λ (e : A × B). e.1) (find (λ (e : A × B). p e.0) (zip xs vs))

  walked : (xs : List A) (vs : List B) → at_first xs vs ≡ beside xs vs
  walked [] vs = refl
  walked (x ∷ xs) [] = nowhere_in (nat_lt (position_or_len p (x ∷ xs)) (length (x ∷ xs))) (position_or_len p (x ∷ xs))
  walked (x ∷ xs) (v ∷ vs) =
      let n = position_or_len p xs in
      let at : ℕ → Option B = λ k. cond (nat_lt k (suc (length xs))) (slice_get (v ∷ vs) k) None in
      elim (p x) as (λ b. at (cond (not b) (1 + n) 0) ≡ option_map (λ (e : A × B). e.1) (cond b (Some (x, v)) (find (λ (e : A × B). p e.0) (zip xs vs)))) [
        | true ↦ ap (λ b. cond b (Some v) None) (lt-ltb 0 (suc (length xs)) (omega arith))
        | false ↦ (let e : 1 + n ≡ suc n = omega arith in ap at e) ∙ ap (λ b. cond b (slice_get vs n) None) (one_less n (length xs)) ∙ walked xs vs
      ]

  pub found_beside : (xs : List A) (vs : List B) → option_and_then (slice_get vs) (position p xs) ≡ beside xs vs
  found_beside xs vs = where_there vs (nat_lt (position_or_len p xs) (length xs)) (position_or_len p xs) ∙ walked xs vs
