-- A list in which no element comes twice has one number for each, and one list is what is made of a list element by element.
use Rattle.std.proofs.Common.{◌≡◌, ℕ, suc, ◌<◌, List, [], ◌∷◌, ◌++◌, map, get_or, All, Some, refl, sym, ap, ◌∙◌, inl, inr, arith, length-append}
use Rattle.std.specs.Prelude.{slice_get}
use Rattle.std.specs.List.{AllZip, AllPairs}
use Rattle.std.specs.Option.{option_map}
use Rattle.std.proofs.lemmas.Bool.{cases_lt}
use Rattle.std.proofs.lemmas.List.{get_or_append_left, get_or_default}
use Rattle.std.proofs.lemmas.List.Elements.{All-head, All-tail, All-map, All-append}
use Rattle.std.proofs.lemmas.List.Kept.{AllPairs-cons}
use Rattle.std.proofs.lemmas.Option.{get_or_from_slice_get, slice_get_within, slice_get-map}
use Rattle.yw_accept.specs.Facts.{AreDistinct}

module _ {A : Type 0} where
  -- no element comes twice
  abbrev pub Apart : List A → Type 0
  Apart xs = AllPairs (λ x y. x ≡ y → ⊥) xs

  none_apart : Apart []
  none_apart i j d lt within = absurd (omega (arith, within))

  apart_head : (x : A) (xs : List A) → Apart (x ∷ xs) → All (λ y. x ≡ y → ⊥) xs
  apart_head x xs h j d lt = h 0 (suc j) d (omega arith) (omega (arith, lt))

  apart_tail : (x : A) (xs : List A) → Apart (x ∷ xs) → Apart xs
  apart_tail x xs h i j d lt within = h (suc i) (suc j) d (omega (arith, lt)) (omega (arith, within))

  pub apart_append : (xs ys : List A) → Apart xs → Apart ys → All (λ x. All (λ y. x ≡ y → ⊥) ys) xs → Apart (xs ++ ys)
  apart_append [] ys h g cross = g
  apart_append (x ∷ xs) ys h g cross =
      AllPairs-cons (λ y z. y ≡ z → ⊥) x (xs ++ ys)
      (All-append (λ y. x ≡ y → ⊥) xs ys (apart_head x xs h) (All-head (λ y. All (λ z. y ≡ z → ⊥) ys) x xs cross))
      (apart_append xs ys (apart_tail x xs h) g (All-tail (λ y. All (λ z. y ≡ z → ⊥) ys) x xs cross))

  pub apart_right : (xs ys : List A) → Apart (xs ++ ys) → Apart ys
  apart_right [] ys h = h
  apart_right (x ∷ xs) ys h = apart_right xs ys (apart_tail x (xs ++ ys) h)

  pub apart_left : (xs ys : List A) → Apart (xs ++ ys) → Apart xs
  apart_left xs ys h i j d lt within e =
      h i j d lt (omega (arith, within, length-append xs ys)) (get_or_append_left xs ys d i (omega (arith, lt, within)) ∙ e ∙ sym (get_or_append_left xs ys d j within))

  at_later : (xs : List A) → Apart xs → (i j : ℕ) (x : A) → i < j → slice_get xs i ≡ Some x → slice_get xs j ≡ Some x → ⊥
  at_later xs h i j x lt p q = h i j x lt (slice_get_within xs j x q) (get_or_from_slice_get xs i x x p ∙ sym (get_or_from_slice_get xs j x x q))

  -- an element has one number
  pub one_number : (xs : List A) → Apart xs → (x : A) (i j : ℕ) → slice_get xs i ≡ Some x → slice_get xs j ≡ Some x → i ≡ j
  one_number xs h x i j p q = elim (cases_lt i j) [
    | inl lt ↦ absurd (at_later xs h i j x lt p q)
    | inr le ↦ elim (cases_lt j i) [
      | inl lt ↦ absurd (at_later xs h j i x lt q p)
      | inr ge ↦ omega (arith, le, ge)
    ]
  ]

module _ {A B : Type 0} (f : A → B) (P : A → Type 0) (one : (x y : A) → P x → P y → f x ≡ f y → x ≡ y) where
  differ : (x : A) (xs : List A) → P x → All P xs → All (λ y. x ≡ y → ⊥) xs → All (λ y. f x ≡ f y → ⊥) xs
  differ x xs p ps h i d lt e = h i d lt (one x (get_or xs i d) p (ps i d lt) e)

  -- what tells elements apart keeps them apart
  pub apart_map : (xs : List A) → All P xs → Apart xs → Apart (map f xs)
  apart_map [] ps h = none_apart
  apart_map (x ∷ xs) ps h =
      AllPairs-cons (λ y z. y ≡ z → ⊥) (f x) (map f xs)
      (All-map (λ y. f x ≡ y → ⊥) f xs (differ x xs (All-head P x xs ps) (All-tail P x xs ps) (apart_head x xs h)))
      (apart_map xs (All-tail P x xs ps) (apart_tail x xs h))

pub apart_names : (names : List (List ℕ)) → AreDistinct names → Apart names
apart_names names h i j d lt within e =
    let same : i ≡ j = h i j (omega (arith, lt, within)) within (get_or_default names i [] d (omega (arith, lt, within)) ∙ e ∙ get_or_default names j d [] within) in
    omega (arith, same, lt)

-- a name has one number
pub one_called : {A : Type 0} (name : A → List ℕ) (xs : List A) → Apart (map name xs) → (n : List ℕ) (i j : ℕ) → option_map name (slice_get xs i) ≡ Some n → option_map name (slice_get xs j) ≡ Some n → i ≡ j
one_called name xs h n i j p q = one_number (map name xs) h n i j (slice_get-map name xs i ∙ p) (slice_get-map name xs j ∙ q)

-- where each element makes one thing, a list makes one list
pub one_list : {A B : Type 0} (P : A → Type 0) (R : A → B → Type 0) → ((x : A) (y z : B) → P x → R x y → R x z → y ≡ z) → (xs : List A) (ys zs : List B) → All P xs → AllZip R xs ys → AllZip R xs zs → ys ≡ zs
one_list P R one [] [] [] ps a b = refl
one_list P R one [] [] (z ∷ zs) ps a b = absurd b
one_list P R one [] (y ∷ ys) zs ps a b = absurd a
one_list P R one (x ∷ xs) [] zs ps a b = absurd a
one_list P R one (x ∷ xs) (y ∷ ys) [] ps a b = absurd b
one_list P R one (x ∷ xs) (y ∷ ys) (z ∷ zs) ps a b =
    let head : y ≡ z = one x y z (All-head P x xs ps) a.0 b.0 in
    let tail : ys ≡ zs = one_list P R one xs ys zs (All-tail P x xs ps) a.1 b.1 in
    ap (λ w. w ∷ ys) head ∙ ap (λ ws. z ∷ ws) tail

pub one_made : {A B : Type 0} (R : A → B → Type 0) → ((x : A) (y z : B) → R x y → R x z → y ≡ z) → (xs : List A) (ys zs : List B) → AllZip R xs ys → AllZip R xs zs → ys ≡ zs
one_made R one xs ys zs a b = one_list (λ _. Unit {0}) R (λ x y z _ p q. one x y z p q) xs ys zs (λ i d lt. tt) a b
