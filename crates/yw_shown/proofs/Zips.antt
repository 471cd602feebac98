-- A walk over two lists side by side: what is left of the pairs.
use Rattle.std.proofs.Common.{◌≡◌, ◌⊎◌, ◌∙◌, List, [], ◌∷◌, ap, inl, inr, refl}
use Rattle.std.specs.List.{zip}

module _ {A B : Type 0} where
  pub one_less : (xs us : List A) (ys vs : List B) (x : A) (y : B) → (xs ≡ x ∷ us) × (ys ≡ y ∷ vs) → zip xs ys ≡ (x, y) ∷ zip us vs
  one_less xs us ys vs x y turn = ap (λ zs. zip zs ys) turn.0 ∙ ap (zip (x ∷ us)) turn.1

  none_of_second : (xs : List A) → zip {X = B} xs [] ≡ []
  none_of_second [] = refl
  none_of_second (x ∷ xs) = refl

  pub none_left : (xs : List A) (ys : List B) → (xs ≡ []) ⊎ (ys ≡ []) → zip xs ys ≡ []
  none_left xs ys (inl first) = ap (λ zs. zip zs ys) first
  none_left xs ys (inr second) = ap (zip xs) second ∙ none_of_second xs
