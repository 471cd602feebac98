-- What is found among those that pass a test.
use Rattle.std.proofs.Common.{Bool, List, Option, Some, [], ap, cond, refl, true, false, ◌∙◌, ◌∷◌, ◌≡◌}
use Rattle.std.specs.Prelude.{filter, find, option_map, ◌&&◌}

module _ {A : Type 0} (p q : A → Bool) where
  first : (x : A) (xs : List A) (b c : Bool) → find p (filter q xs) ≡ find (λ y. q y && p y) xs
      → find p (cond b (x ∷ filter q xs) (filter q xs)) ≡ cond b (cond (p x) (Some x) (find (λ y. q y && p y) xs)) (find (λ y. q y && p y) xs)
  first x xs true c e = ap (cond (p x) (Some x)) e
  first x xs false c e = e

  merged : (x : A) (o : Option A) (b c : Bool) → cond b (cond c (Some x) o) o ≡ cond (b && c) (Some x) o
  merged x o true c = refl
  merged x o false c = refl

  pub find_filtered : (xs : List A) → find p (filter q xs) ≡ find (λ y. q y && p y) xs
  find_filtered [] = refl
  find_filtered (x ∷ xs) = first x xs (q x) (p x) (find_filtered xs) ∙ merged x (find (λ y. q y && p y) xs) (q x) (p x)
