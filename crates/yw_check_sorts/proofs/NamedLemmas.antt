-- Elements found by their names, of which no two are equal.
use Rattle.std.proofs.Common.{◌≡◌, ℕ, zero, suc, ◌<◌, ◌≤◌, nat_lt, ◌&&◌, ◌||◌, Bool, true, false, true≢false, not, cond, List, [], ◌∷◌, map, length, get_or, find, Option, Some, None, All, Bor, bytes_eq, inl, inr, refl, sym, ap, ◌∙◌, subst, arith}
use Rattle.std.specs.Prelude.{slice_get, IfSome, is_some}
use Rattle.std.specs.List.{list_any, list_all}
use Rattle.std.specs.Option.{option_copied, option_map_or}
use Rattle.std.specs.Cmp.Lexicographic.{nat_list_eq_equiv}
use Rattle.std.proofs.Math.Bool.{or-false, and-true}
use Rattle.std.proofs.lemmas.Bool.{cases_Bool, false_from_ne_true, or_parts}
use Rattle.std.proofs.lemmas.Bool.Decides.{nat_tests}
use Rattle.std.proofs.lemmas.List.{get_or-map, length-map}
use Rattle.std.proofs.lemmas.List.Folds.{list_any_none}
use Rattle.std.proofs.lemmas.Option.{none-some, same_Some, slice_get_within, slice_get_past, slice_get_read, get_or_from_slice_get}
use Rattle.std.proofs.lemmas.Slice.Eq.{bytes_eq-Decides}
use Rattle.yw_accept.specs.Facts.{AreDistinct}
use Rattle.yw_accept.specs.Nodes.{is_name_among}

module _ {A : Type 0} (of : A → List ℕ) (name : List ℕ) where
  abbrev pub has_name : A → Bool
  has_name x = bytes_eq (of x) name

  rest_distinct : (x : A) (xs : List A) → AreDistinct (map of (x ∷ xs)) → AreDistinct (map of xs)
  rest_distinct x xs h i j li lj e = let s : suc i ≡ suc j = h (suc i) (suc j) (omega (arith, li)) (omega (arith, lj)) e in omega (arith, s)

  -- where the first has the name, no other has it
  alone : (x : A) (xs : List A) → AreDistinct (map of (x ∷ xs)) → has_name x ≡ true → All (λ y. has_name y ≡ false) xs
  alone x xs h t i d lt = false_from_ne_true _ (λ u.
      let first : of x ≡ name = (bytes_eq-Decides (of x) name).0 t in
      let same : of (get_or xs i d) ≡ name = (bytes_eq-Decides (of (get_or xs i d)) name).0 u in
      let at : get_or (map of xs) i [] ≡ of (get_or xs i d) = get_or-map of xs i d [] lt in
      let e : zero ≡ suc i = h zero (suc i) (omega arith) (omega (arith, lt, length-map xs of)) (first ∙ sym same ∙ sym at) in
      omega (arith, e))

  none_named : (xs : List A) → All (λ y. has_name y ≡ false) xs → find has_name xs ≡ None
  none_named [] h = refl
  none_named (x ∷ xs) h = ap (λ b. cond b (Some x) (find has_name xs)) (h zero x (omega arith)) ∙ none_named xs (λ i d lt. h (suc i) d (omega (arith, lt)))

  -- the name stands at a place
  pub found_at : (xs : List A) → AreDistinct (map of xs) → (k : ℕ) → slice_get (map of xs) k ≡ Some name → find has_name xs ≡ slice_get xs k
  found_at [] h k e = absurd (none-some name e)
  found_at (x ∷ xs) h zero e = ap (λ b. cond b (Some x) (find has_name xs)) ((bytes_eq-Decides (of x) name).1 (same_Some (of x) name e))
  found_at (x ∷ xs) h (suc k) e =
      let lt : k < length xs = omega (arith, slice_get_within (map of xs) k name e, length-map xs of) in
      let at : of (get_or xs k x) ≡ name = sym (get_or-map of xs k x [] lt) ∙ get_or_from_slice_get (map of xs) k name [] e in
      let other : has_name x ≡ false = false_from_ne_true _ (λ t. true≢false (sym ((bytes_eq-Decides (of (get_or xs k x)) name).1 at) ∙ alone x xs h t k x lt)) in
      ap (λ b. cond b (Some x) (find has_name xs)) other ∙ found_at xs (rest_distinct x xs h) k e

  -- it stands nowhere
  pub found_none : (xs : List A) → is_name_among (map of xs) name ≡ false → find has_name xs ≡ None
  found_none [] h = refl
  found_none (x ∷ xs) h =
      let parts = or_parts (bytes_eq name (of x)) (is_name_among (map of xs) name) h in
      ap (λ b. cond b (Some x) (find has_name xs)) (nat_list_eq_equiv.symm (of x) name ∙ parts.0) ∙ found_none xs parts.1

  -- ---- tests of all elements that speak of the one with the name alone
  module _ (q test : A → Bool) where
    module _ (same : (x : A) → q x ≡ (has_name x && test x)) where
      any_found : (xs : List A) → AreDistinct (map of xs) → list_any q xs ≡ option_map_or test (find has_name xs) false
      any_found [] h = refl
      any_found (x ∷ xs) h =
          let none : All (λ y. has_name y ≡ false) xs → list_any q xs ≡ false =
          λ all. list_any_none q xs (λ i d lt. same (get_or xs i d) ∙ ap (λ b. b && test (get_or xs i d)) (all i d lt)) in
          elim (cases_Bool (has_name x)) [
            | inl t ↦
                ap (λ b. b || list_any q xs) (same x ∙ ap (λ b. b && test x) t) ∙ ap (λ b. test x || b) (none (alone x xs h t)) ∙ or-false (test x)
                ∙ ap (λ b. option_map_or test (cond b (Some x) (find has_name xs)) false) (sym t)
            | inr f ↦
                ap (λ b. b || list_any q xs) (same x ∙ ap (λ b. b && test x) f) ∙ any_found xs (rest_distinct x xs h)
                ∙ ap (λ b. option_map_or test (cond b (Some x) (find has_name xs)) false) (sym f)
          ]

      pub any_is : (xs : List A) → AreDistinct (map of xs) → (r : Option (Bor A)) → option_copied r ≡ find has_name xs → (v : Bor A) → r ≡ Some v → (b : Bool) → b ≡ test v.now → b ≡ list_any q xs
      any_is xs h r at v is b e = e ∙ ap (λ (o : Option A). option_map_or test o false) (sym (ap option_copied is) ∙ at) ∙ sym (any_found xs h)

      pub any_isnt : (xs : List A) → AreDistinct (map of xs) → (r : Option (Bor A)) → option_copied r ≡ find has_name xs → r ≡ None → false ≡ list_any q xs
      any_isnt xs h r at is = ap (λ (o : Option A). option_map_or test o false) (sym (ap option_copied is) ∙ at) ∙ sym (any_found xs h)

    module _ (same : (x : A) → q x ≡ (not (has_name x) || test x)) where
      all_others : (xs : List A) → All (λ y. has_name y ≡ false) xs → list_all q xs ≡ true
      all_others [] h = refl
      all_others (x ∷ xs) h =
          ap (λ b. b && list_all q xs) (same x ∙ ap (λ b. not b || test x) (h zero x (omega arith))) ∙ all_others xs (λ i d lt. h (suc i) d (omega (arith, lt)))

      all_found : (xs : List A) → AreDistinct (map of xs) → list_all q xs ≡ option_map_or test (find has_name xs) true
      all_found [] h = refl
      all_found (x ∷ xs) h = elim (cases_Bool (has_name x)) [
        | inl t ↦
            ap (λ b. b && list_all q xs) (same x ∙ ap (λ b. not b || test x) t) ∙ ap (λ b. test x && b) (all_others xs (alone x xs h t)) ∙ and-true (test x)
            ∙ ap (λ b. option_map_or test (cond b (Some x) (find has_name xs)) true) (sym t)
        | inr f ↦
            ap (λ b. b && list_all q xs) (same x ∙ ap (λ b. not b || test x) f) ∙ all_found xs (rest_distinct x xs h)
            ∙ ap (λ b. option_map_or test (cond b (Some x) (find has_name xs)) true) (sym f)
      ]

      pub all_is : (xs : List A) → AreDistinct (map of xs) → (r : Option (Bor A)) → option_copied r ≡ find has_name xs → (v : Bor A) → r ≡ Some v → (b : Bool) → b ≡ test v.now → b ≡ list_all q xs
      all_is xs h r at v is b e = e ∙ ap (λ (o : Option A). option_map_or test o true) (sym (ap option_copied is) ∙ at) ∙ sym (all_found xs h)

      pub all_isnt : (xs : List A) → AreDistinct (map of xs) → (r : Option (Bor A)) → option_copied r ≡ find has_name xs → r ≡ None → true ≡ list_all q xs
      all_isnt xs h r at is = ap (λ (o : Option A). option_map_or test o true) (sym (ap option_copied is) ∙ at) ∙ sym (all_found xs h)

-- what holds of all holds of the one that is found
pub find_all : {A : Type 0} (P : A → Type 0) (p : A → Bool) (xs : List A) → All P xs → (x : A) → find p xs ≡ Some x → P x
find_all P p [] all x e = absurd (none-some x e)
find_all {A} P p (y ∷ ys) all x e = elim (cases_Bool (p y)) [
  | inl t ↦ subst P (same_Some y x (ap (λ b. cond b (Some y) (find p ys)) (sym t) ∙ e)) (all zero y (omega arith))
  | inr f ↦ find_all P p ys (λ i d lt. all (suc i) d (omega (arith, lt))) x (ap (λ b. cond b (Some y) (find p ys)) (sym f) ∙ e)
]

-- what is read at a place
pub read_at : {A : Type 0} (r : Option (Bor A)) (xs : List A) (i : ℕ) → is_some r ≡ nat_lt i (length xs) → IfSome r (λ x. x.now ≡ get_or xs i x.now) → option_copied r ≡ slice_get xs i
read_at None xs i e h = let le : length xs ≤ i = grind (arith, nat_tests) in sym (slice_get_past xs i le)
read_at (Some x) xs i e h = let lt : i < length xs = grind (arith, nat_tests) in sym (slice_get_read xs (length xs) i x.now refl lt h)
