-- What is found in a list whose names differ, and by number in a list that is made element by element.
use Rattle.std.specs.Prelude.{◌≡◌, ◌<◌, ◌||◌, ℕ, zero, suc, Bool, true, List, [], ◌∷◌, map, length, get_or, cond, Some, None, find, position, slice_get, option_and_then, option_map, refl}
use Rattle.std.specs.List.{All, AllZip, list_any, position_or_len}
use Rattle.std.specs.Str.{bytes_eq}
use Rattle.std.proofs.Common.{sym, ◌∙◌, ap, subst, inl, inr, arith}
use Rattle.std.proofs.lemmas.Bool.{cases_lt, lt-ltb}
use Rattle.std.proofs.lemmas.List.Sums.{fails_before_first, passes_at_first}
use Rattle.std.proofs.lemmas.List.Folds.{find_at}
use Rattle.std.proofs.lemmas.Option.{get_or_from_slice_get, slice_get_within, slice_get-get_or}
use Rattle.std.proofs.lemmas.Slice.Eq.{bytes_eq-Decides}
use Rattle.yw_said.proofs.Numbers.{Apart, one_called}
use Rattle.yw_state.proofs.MapLemmas.{by_test, never, nowhere, some_same}

-- an element made of another is made of the one with its number
pub zip_at : {A B : Type 0} (R : A → B → Type 0) (xs : List A) (ys : List B) → AllZip R xs ys → (k : ℕ) (y : B) → slice_get ys k ≡ Some y → (x : A) × (slice_get xs k ≡ Some x) × R x y
zip_at R [] [] all k y e = nowhere e
zip_at R [] (b ∷ ys) all k y e = absurd all
zip_at R (a ∷ xs) [] all k y e = absurd all
zip_at R (a ∷ xs) (b ∷ ys) all zero y e = (a, refl, subst (R a) (some_same b y e) all.0)
zip_at R (a ∷ xs) (b ∷ ys) all (suc k) y e = zip_at R xs ys all.1 k y e

pub all_at : {A : Type 0} (P : A → Type 0) (xs : List A) → All P xs → (k : ℕ) (x : A) → slice_get xs k ≡ Some x → P x
all_at P xs all k x e = subst P (get_or_from_slice_get xs k x x e) (all k x (slice_get_within xs k x e))

-- an element that passes, where one does
pub any_at : {A : Type 0} (p : A → Bool) (xs : List A) → list_any p xs ≡ true → (m : ℕ) × (x : A) × (slice_get xs m ≡ Some x) × (p x ≡ true)
any_at p [] e = never e
any_at p (x ∷ xs) e =
    by_test (p x)
    (λ here. (zero, x, refl, here))
    (λ no. let rest = any_at p xs (ap (λ b. b || list_any p xs) (sym no) ∙ e) in (suc rest.0, rest.1, rest.2, rest.3))

-- names that are made of names
pub zip_names : {A B : Type 0} (R : A → B → Type 0) (f : A → List ℕ) (g : B → List ℕ) → ((x : A) (y : B) → R x y → g y ≡ f x) → (xs : List A) (ys : List B) → AllZip R xs ys → map g ys ≡ map f xs
zip_names R f g same [] [] all = refl
zip_names R f g same [] (b ∷ ys) all = absurd all
zip_names R f g same (a ∷ xs) [] all = absurd all
zip_names R f g same (a ∷ xs) (b ∷ ys) all = ap (λ n. n ∷ map g ys) (same a b all.0) ∙ ap (λ ns. f a ∷ ns) (zip_names R f g same xs ys all.1)

module _ {A : Type 0} (name : A → List ℕ) (xs : List A) (apart : Apart (map name xs)) (k : ℕ) (x : A) (at : slice_get xs k ≡ Some x) where
  abbrev has_name : A → Bool
  has_name y = bytes_eq (name y) (name x)

  itself : bytes_eq (name x) (name x) ≡ true
  itself = (bytes_eq-Decides (name x) (name x)).1 refl

  first_within : position_or_len has_name xs < length xs
  first_within =
      let within = slice_get_within xs k x at in
      elim (cases_lt k (position_or_len has_name xs)) [
        | inl lt ↦ never (sym (fails_before_first has_name xs k x lt) ∙ ap has_name (get_or_from_slice_get xs k x x at) ∙ itself)
        | inr le ↦ omega (arith, le, within)
      ]

  -- the first of the name is the one
  first_is : position_or_len has_name xs ≡ k
  first_is =
      let there = slice_get-get_or xs (position_or_len has_name xs) x first_within in
      let same = (bytes_eq-Decides (name (get_or xs (position_or_len has_name xs) x)) (name x)).0 (passes_at_first has_name xs x first_within) in
      one_called name xs apart (name x) (position_or_len has_name xs) k (ap (option_map name) there ∙ ap Some same) (ap (option_map name) at)

  pub found_by_name : option_and_then (slice_get xs) (position has_name xs) ≡ Some x
  found_by_name =
      ap (λ b. option_and_then (slice_get xs) (cond b (Some (position_or_len has_name xs)) None)) (lt-ltb _ _ first_within) ∙ ap (slice_get xs) first_is ∙ at

  pub found_first : find has_name xs ≡ Some x
  found_first = find_at has_name xs ∙ ap (slice_get xs) first_is ∙ at
