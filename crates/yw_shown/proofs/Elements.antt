-- Elements of lists, by the two words for them.
use Rattle.std.proofs.Common.{◌≡◌, ◌⊎◌, ◌∙◌, zero, suc, Bool, true, false, List, [], ◌∷◌, ◌++◌, map, ap, arith, inl, inr, refl, subst, sym}
use Rattle.std.specs.Prelude.{Contains, filter, if◌then◌else◌}
use Rattle.yw_state.proofs.Entries.{IsIn}

module _ {A : Type 0} where
  pub contained : (xs : List A) (x : A) → IsIn xs x → Contains xs x
  contained (y ∷ ys) x (inl same) = (0, omega arith, same)
  contained (y ∷ ys) x (inr rest) = let there = contained ys x rest in (suc there.0, omega (arith, there.1), there.2)
  contained [] x within = absurd within

  pub found_in : (xs : List A) (x : A) → Contains xs x → IsIn xs x
  found_in [] x there = absurd (omega (arith, there.1))
  found_in (y ∷ ys) x (zero, lt, same) = inl same
  found_in (y ∷ ys) x (suc k, lt, same) = inr (found_in ys x (k, omega (arith, lt), same))

  pub in_filter : (p : A → Bool) (xs : List A) (x : A) → IsIn xs x → p x ≡ true → IsIn (filter p xs) x
  in_filter p [] x within e = absurd within
  in_filter p (y ∷ ys) x (inl same) e = subst (λ b. IsIn (if b then y ∷ filter p ys else filter p ys) x) (sym (ap p same ∙ e)) (inl same)
  in_filter p (y ∷ ys) x (inr rest) e =
      elim (p y) as (λ b. IsIn (if b then y ∷ filter p ys else filter p ys) x) [ true ↦ inr (in_filter p ys x rest e) | false ↦ in_filter p ys x rest e ]

  pub from_filter : (p : A → Bool) (xs : List A) (x : A) → IsIn (filter p xs) x → IsIn xs x × (p x ≡ true)
  from_filter p [] x within = absurd within
  from_filter p (y ∷ ys) x within =
      elim (p y) as (λ b. p y ≡ b → IsIn (if b then y ∷ filter p ys else filter p ys) x → IsIn (y ∷ ys) x × (p x ≡ true)) [
        | true ↦ λ e there. elim there [
          | inl same ↦ (inl same, ap p (sym same) ∙ e)
          | inr later ↦ let rest = from_filter p ys x later in (inr rest.0, rest.1)
        ]
        | false ↦ λ e there. let rest = from_filter p ys x there in (inr rest.0, rest.1)
      ] refl within

  pub in_left : (xs ys : List A) (x : A) → IsIn xs x → IsIn (xs ++ ys) x
  in_left [] ys x within = absurd within
  in_left (z ∷ xs) ys x (inl same) = inl same
  in_left (z ∷ xs) ys x (inr rest) = inr (in_left xs ys x rest)

  pub in_right : (xs ys : List A) (x : A) → IsIn ys x → IsIn (xs ++ ys) x
  in_right [] ys x within = within
  in_right (z ∷ xs) ys x within = inr (in_right xs ys x within)

  pub in_one : (xs ys : List A) (x : A) → IsIn (xs ++ ys) x → IsIn xs x ⊎ IsIn ys x
  in_one [] ys x within = inr within
  in_one (z ∷ xs) ys x (inl same) = inl (inl same)
  in_one (z ∷ xs) ys x (inr rest) = elim (in_one xs ys x rest) [ inl left ↦ inl (inr left) | inr right ↦ inr right ]

module _ {A B : Type 0} where
  pub in_map : (f : A → B) (xs : List A) (x : A) → IsIn xs x → IsIn (map f xs) (f x)
  in_map f [] x within = absurd within
  in_map f (y ∷ ys) x (inl same) = inl (ap f same)
  in_map f (y ∷ ys) x (inr rest) = inr (in_map f ys x rest)

  pub from_map : (f : A → B) (xs : List A) (y : B) → IsIn (map f xs) y → (x : A) × IsIn xs x × (f x ≡ y)
  from_map f [] y within = absurd within
  from_map f (x ∷ xs) y (inl same) = (x, inl refl, same)
  from_map f (x ∷ xs) y (inr rest) = let there = from_map f xs y rest in (there.0, inr there.1, there.2)
