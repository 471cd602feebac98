-- Where a name stands in a layer with one more binding, and in a layer before another.
use Rattle.std.proofs.Common.{◌≡◌, ℕ, ◌+◌, ◌<◌, ◌≤◌, true, false, List, [], ◌∷◌, ◌++◌, Option, Some, None, length, refl, sym, ap, ◌∙◌, add-zero, arith}
use Rattle.std.specs.Prelude.{Bool, String, IfSome, is_some, cond, position, option_map}
use Rattle.std.specs.BTreeMap.{BTreeMap, get_by_text}
use Rattle.std.specs.List.{position_from}
use Rattle.std.specs.Map.{update}
use Rattle.std.specs.Option.{option_or}
use Rattle.std.specs.Str.{bytes_eq}
use Rattle.std.proofs.lemmas.Bool.Decides.{nat_tests}
use Rattle.std.proofs.lemmas.Iterator.Adapters.{position_from-zero}
use Rattle.std.proofs.lemmas.Slice.Eq.{bytes_eq-Decides}
use Rattle.yw_expr.specs.declared.scope.Binding.{Binding}
use Rattle.yw_expr.specs.Scope.{place_in}

module _ {X : Type 0} (p : X → Bool) where
  choice : (b : Bool) (i : ℕ) (r s t : Option ℕ) → r ≡ option_or s t → cond b (Some i) r ≡ option_or (cond b (Some i) s) t
  choice true i r s t h = refl
  choice false i r s t h = h

  position_from-append : (i : ℕ) (xs ys : List X) → position_from p i (xs ++ ys) ≡ option_or (position_from p i xs) (position_from p (i + length xs) ys)
  position_from-append i [] ys = ap (λ n. position_from p n ys) (sym (add-zero i))
  position_from-append i (x ∷ xs) ys =
      let n : i + 1 + length xs ≡ i + length (x ∷ xs) = omega arith in
      choice (p x) i _ _ _ (position_from-append (i + 1) xs ys ∙ ap (λ m. option_or (position_from p (i + 1) xs) (position_from p m ys)) n)

  moved : (b : Bool) (i j : ℕ) (r s : Option ℕ) → r ≡ option_map (λ k. i + k) s → cond b (Some (i + j)) r ≡ option_map (λ k. i + k) (cond b (Some j) s)
  moved true i j r s h = refl
  moved false i j r s h = h

  position_from-add : (i j : ℕ) (xs : List X) → position_from p (i + j) xs ≡ option_map (λ k. i + k) (position_from p j xs)
  position_from-add i j [] = refl
  position_from-add i j (x ∷ xs) =
      let n : i + j + 1 ≡ i + (j + 1) = omega arith in
      moved (p x) i j _ _ (ap (λ m. position_from p m xs) n ∙ position_from-add i (j + 1) xs)

  behind : (i : ℕ) (xs : List X) → position_from p (0 + i) xs ≡ option_map (λ k. i + k) (position p xs)
  behind i xs =
      let n : 0 + i ≡ i + 0 = omega arith in
      ap (λ m. position_from p m xs) n ∙ position_from-add i 0 xs ∙ ap (option_map (λ k. i + k)) (sym (position_from-zero p xs))

  position-append : (xs ys : List X) → position p (xs ++ ys) ≡ option_or (position p xs) (option_map (λ k. length xs + k) (position p ys))
  position-append xs ys =
      position_from-zero p (xs ++ ys) ∙ position_from-append 0 xs ys
      ∙ ap (λ o. option_or o (position_from p (0 + length xs) ys)) (sym (position_from-zero p xs))
      ∙ ap (option_or (position p xs)) (behind (length xs) ys)

  position-within : (xs : List X) (k : ℕ) → position p xs ≡ Some k → k < length xs
  position-within xs k h = grind (arith, nat_tests)

-- the inner layer first, and a place of the outer one behind all of the inner one
pub place_in-append : (xs ys : List Binding) (name : List ℕ) → place_in (xs ++ ys) name ≡ option_or (place_in xs name) (option_map (λ k. length xs + k) (place_in ys name))
place_in-append xs ys name = position-append (λ (b : Binding). bytes_eq b.name name) xs ys

pub place_below : (xs : List Binding) (name : List ℕ) (n : ℕ) (o : Option ℕ) → length xs ≤ n → o ≡ place_in xs name → IfSome o (λ k. k < n)
place_below xs name n None few h = tt
place_below xs name n (Some k) few h = let within = position-within (λ (b : Binding). bytes_eq b.name name) xs k (sym h) in omega arith

pub place_in_inner : (xs ys all : List Binding) (name : List ℕ) (k : ℕ) → xs ++ ys ≡ all → Some k ≡ place_in xs name → Some k ≡ place_in all name
place_in_inner xs ys all name k e h =
    ap (λ o. option_or o (option_map (λ j. length xs + j) (place_in ys name))) h
    ∙ sym (place_in-append xs ys name) ∙ ap (λ zs. place_in zs name) e

pub place_in_outer : (xs ys all : List Binding) (name : List ℕ) (n : ℕ) (r : Option ℕ) → xs ++ ys ≡ all → n ≡ length xs → None ≡ place_in xs name → r ≡ option_map (λ k. n + k) (place_in ys name) → r ≡ place_in all name
place_in_outer xs ys all name n r e len h found =
    found ∙ ap (λ m. option_map (λ k. m + k) (place_in ys name)) len
    ∙ ap (λ o. option_or o (option_map (λ k. length xs + k) (place_in ys name))) h
    ∙ sym (place_in-append xs ys name) ∙ ap (λ zs. place_in zs name) e

added : (b : Bool) (n : ℕ) (o : Option ℕ) → (b ≡ true → o ≡ None) → option_or o (option_map (λ k. n + k) (cond b (Some 0) None)) ≡ cond b (Some n) o
added true n o h = ap (λ r. option_or r (Some (n + 0))) (h refl) ∙ ap (λ m. Some m) (add-zero n)
added false n None h = refl
added false n (Some k) h = refl

-- a name that is new has the place behind all others, and the others keep theirs
pub place_in-push : (xs : List Binding) (b : Binding) → place_in xs b.name ≡ None → (name : List ℕ) → place_in (xs ++ b ∷ []) name ≡ cond (bytes_eq b.name name) (Some (length xs)) (place_in xs name)
place_in-push xs b h name =
    place_in-append xs (b ∷ []) name
    ∙ ap (λ o. option_or (place_in xs name) (option_map (λ k. length xs + k) o)) (position_from-zero (λ (c : Binding). bytes_eq c.name name) (b ∷ []))
    ∙ added (bytes_eq b.name name) (length xs) (place_in xs name) (λ e. let same : b.name ≡ name = (bytes_eq-Decides b.name name).0 e in ap (place_in xs) (sym same) ∙ h)

-- the places by name stay those in the list where a new name is added to both
pub places_added : {Y : Type 0} (places more : BTreeMap (String Y) ℕ) (list all : List Binding) (b : Binding) (bytes : List ℕ) (n : ℕ) → ((name : List ℕ) → get_by_text places name ≡ place_in list name) → bytes ≡ b.name → n ≡ length list → all ≡ list ++ b ∷ [] → is_some (get_by_text places b.name) ≡ false → ((name : List ℕ) → get_by_text more name ≡ update bytes_eq (get_by_text places) bytes (Some n) name) → (name : List ℕ) → get_by_text more name ≡ place_in all name
places_added places more list all b bytes n held is len grown new updates name =
    updates name
    ∙ ap (λ bs. cond (bytes_eq bs name) (Some n) (get_by_text places name)) is
    ∙ ap (λ m. cond (bytes_eq b.name name) (Some m) (get_by_text places name)) len
    ∙ ap (λ o. cond (bytes_eq b.name name) (Some (length list)) o) (held name)
    ∙ sym (place_in-push list b (absent (place_in list b.name) (ap is_some (sym (held b.name)) ∙ new)) name)
    ∙ ap (λ zs. place_in zs name) (sym grown)
  where
    absent : (o : Option ℕ) → is_some o ≡ false → o ≡ None
    absent None h = refl
    absent (Some k) h = cc
