-- Numbers of what is made of a list element by element, and of what names tell apart.
use Rattle.std.specs.Prelude.{◌≡◌, ◌<◌, ℕ, suc, Bool, true, List, [], ◌∷◌, ◌++◌, map, length, get_or, cond, Some, None, nat_lt, position, slice_get, option_map, refl}
use Rattle.std.specs.List.{AllZip, list_all, position_or_len}
use Rattle.std.specs.Str.{bytes_eq}
use Rattle.std.proofs.Common.{sym, ◌∙◌, ap, inl, inr, arith}
use Rattle.std.proofs.lemmas.Bool.{and_from, and_parts, cases_lt, lt-ltb}
use Rattle.std.proofs.lemmas.List.{length-map}
use Rattle.std.proofs.lemmas.List.Sums.{fails_before_first, passes_at_first}
use Rattle.std.proofs.lemmas.Option.{get_or_from_slice_get, slice_get_within, slice_get-get_or}
use Rattle.std.proofs.lemmas.Slice.Eq.{bytes_eq-Decides}
use Rattle.yw_said.proofs.Numbers.{Apart, one_called, one_number}
use Rattle.yw_spec.specs.declared.spec.Place.{Place}
use Rattle.yw_spec.specs.declared.spec.Place.TheVariants.{Named, Between}
use Rattle.yw_state.proofs.Tests.{map_some, never}
use Rattle.yw_state.specs.Nets.{same_place}
use Rattle.yw_within.specs.Within.{has_number}

-- ---- numbers that lists have

pub has_it : {A : Type 0} (xs : List A) (k : ℕ) (x : A) → slice_get xs k ≡ Some x → has_number xs k ≡ true
has_it xs k x at = lt-ltb k (length xs) (slice_get_within xs k x at)

-- it has one that is called so
pub has_called : {A : Type 0} (name : A → List ℕ) (xs : List A) (k : ℕ) (n : List ℕ) → option_map name (slice_get xs k) ≡ Some n → has_number xs k ≡ true
has_called name xs k n e = let (x, at, is) = map_some name (slice_get xs k) n e in has_it xs k x at

-- what is made of a list has its numbers
pub same_length : {A B : Type 0} (R : A → B → Type 0) (xs : List A) (ys : List B) → AllZip R xs ys → length ys ≡ length xs
same_length R [] [] zip = refl
same_length R [] (y ∷ ys) zip = absurd zip
same_length R (x ∷ xs) [] zip = absurd zip
same_length R (x ∷ xs) (y ∷ ys) zip = ap suc (same_length R xs ys zip.1)

pub zip_has : {A B : Type 0} (R : A → B → Type 0) (xs : List A) (ys : List B) → AllZip R xs ys → (k : ℕ) → has_number xs k ≡ true → has_number ys k ≡ true
zip_has R xs ys zip k e = ap (nat_lt k) (same_length R xs ys zip) ∙ e

pub map_has : {A B : Type 0} (f : A → B) (xs : List A) (k : ℕ) → has_number (map f xs) k ≡ has_number xs k
map_has f xs k = ap (nat_lt k) (length-map xs f)

-- a list of two or more has the first two numbers
pub has_first : {A : Type 0} (x y : A) (xs : List A) → has_number (x ∷ y ∷ xs) 0 ≡ true
has_first x y xs = lt-ltb 0 (length (x ∷ y ∷ xs)) (omega arith)

pub has_second : {A : Type 0} (x y : A) (xs : List A) → has_number (x ∷ y ∷ xs) 1 ≡ true
has_second x y xs = lt-ltb 1 (length (x ∷ y ∷ xs)) (omega arith)

-- ---- tests of all

pub all_made : {A B : Type 0} (R : A → B → Type 0) (p : B → Bool) → ((x : A) (y : B) → R x y → p y ≡ true) → (xs : List A) (ys : List B) → AllZip R xs ys → list_all p ys ≡ true
all_made R p each [] [] zip = refl
all_made R p each [] (y ∷ ys) zip = absurd zip
all_made R p each (x ∷ xs) [] zip = absurd zip
all_made R p each (x ∷ xs) (y ∷ ys) zip = and_from (p y) _ (each x y zip.0) (all_made R p each xs ys zip.1)

pub all_append : {A : Type 0} (p : A → Bool) (xs ys : List A) → list_all p xs ≡ true → list_all p ys ≡ true → list_all p (xs ++ ys) ≡ true
all_append p [] ys left right = right
all_append p (x ∷ xs) ys left right = let parts = and_parts (p x) (list_all p xs) left in and_from (p x) _ parts.0 (all_append p xs ys parts.1 right)

-- ---- found by a test that one element passes

module _ {A : Type 0} (p : A → Bool) (xs : List A) (k : ℕ) (x : A) (at : slice_get xs k ≡ Some x) (here : p x ≡ true) (one : (j : ℕ) (y : A) → slice_get xs j ≡ Some y → p y ≡ true → j ≡ k) where
  first_within : position_or_len p xs < length xs
  first_within =
      let within = slice_get_within xs k x at in
      elim (cases_lt k (position_or_len p xs)) [
        | inl lt ↦ never (sym (fails_before_first p xs k x lt) ∙ ap p (get_or_from_slice_get xs k x x at) ∙ here)
        | inr le ↦ omega (arith, le, within)
      ]

  position_is : position p xs ≡ Some k
  position_is =
      let is = one (position_or_len p xs) (get_or xs (position_or_len p xs) x) (slice_get-get_or xs (position_or_len p xs) x first_within) (passes_at_first p xs x first_within) in
      ap (λ b. cond b (Some (position_or_len p xs)) None) (lt-ltb _ _ first_within) ∙ ap Some is

pub named_at : {A : Type 0} (name : A → List ℕ) (xs : List A) → Apart (map name xs) → (k : ℕ) (x : A) → slice_get xs k ≡ Some x → position (λ y. bytes_eq (name y) (name x)) xs ≡ Some k
named_at name xs apart k x at =
    position_is (λ y. bytes_eq (name y) (name x)) xs k x at ((bytes_eq-Decides (name x) (name x)).1 refl)
    (λ j y there same. one_called name xs apart (name x) j k (ap (option_map name) there ∙ ap Some ((bytes_eq-Decides (name y) (name x)).0 same)) (ap (option_map name) at))

-- ---- places

same_is : (p q : Place) → same_place p q ≡ true → p ≡ q
same_is (Named a) (Named b) e = ap Named ((bytes_eq-Decides a b).0 e)
same_is (Between a b) (Between c d) e =
    let parts = and_parts (bytes_eq a c) (bytes_eq b d) e in
    ap (λ x. Between x b) ((bytes_eq-Decides a c).0 parts.0) ∙ ap (Between c) ((bytes_eq-Decides b d).0 parts.1)
same_is (Named a) (Between c d) e = never e
same_is (Between a b) (Named c) e = never e

itself : (p : Place) → same_place p p ≡ true
itself (Named a) = (bytes_eq-Decides a a).1 refl
itself (Between a b) = and_from _ _ ((bytes_eq-Decides a a).1 refl) ((bytes_eq-Decides b b).1 refl)

pub place_at : (ps : List Place) → Apart ps → (k : ℕ) (p : Place) → slice_get ps k ≡ Some p → position (same_place p) ps ≡ Some k
place_at ps apart k p at = position_is (same_place p) ps k p at (itself p) (λ j q there same. one_number ps apart p j k (there ∙ ap Some (sym (same_is p q same))) at)
