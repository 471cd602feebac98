-- Lists that rise strictly: two with the same elements are the same list, and one that is sorted and has nothing twice rises.
use Rattle.std.proofs.Common.{◌≡◌, ◌∙◌, ◌<◌, ◌+◌, ℕ, suc, Bool, true, false, List, [], ◌∷◌, map, length, get_or, ap, arith, inl, inr, refl, subst, sym}
use Rattle.std.proofs.lemmas.List.Sorted.{IsPermutation-map, ranks_by, sorted_far}
use Rattle.std.proofs.lemmas.Map.Keys.{IsDistinct-IsPermutation}
use Rattle.std.specs.List.{AllByRecursion, IsDistinct}
use Rattle.std.specs.List.Sorted.{IsPermutation, IsSortedBy}
use Rattle.std.specs.Ordering.{eq_by_cmp, is_eq, is_lt, ordering_reverse}
use Rattle.std.specs.declared.cmp.Ordering.{Ordering}
use Rattle.std.specs.declared.cmp.Ordering.TheVariants.{Less, Equal, Greater}
use Rattle.yw_sites.specs.Idents.{Each}
use Rattle.yw_state.proofs.Entries.{IsIn}
use Rattle.yw_state.proofs.MapLemmas.{KeyOrder, never, tied_self}

module _ {K : Type 0} {R : K → K → Ordering} (o : KeyOrder R) where
  -- each is below all behind it
  abbrev pub Rises : List K → Type 0
  Rises [] = Unit {0}
  Rises (x ∷ xs) = Each (λ y. is_lt (R x y) ≡ true) xs × Rises xs

  reversed : (r : Ordering) → is_lt r ≡ true → is_lt (ordering_reverse r) ≡ false
  reversed Less h = refl
  reversed Equal h = never h
  reversed Greater h = never h

  not_both : {A : Type 0} (x y : K) → is_lt (R x y) ≡ true → is_lt (R y x) ≡ true → A
  not_both x y a b = never (sym (ap is_lt (o.total.antisymm y x) ∙ reversed (R x y) a) ∙ b)

  below : (x : K) (xs : List K) (y : K) → Each (λ z. is_lt (R x z) ≡ true) xs → IsIn xs y → is_lt (R x y) ≡ true
  below x [] y h within = absurd within
  below x (z ∷ zs) y h (inl same) = subst (λ w. is_lt (R x w) ≡ true) same h.0
  below x (z ∷ zs) y h (inr rest) = below x zs y h.1 rest

  lt_is_not_eq : (r : Ordering) → is_lt r ≡ true → is_eq r ≡ true → ⊥
  lt_is_not_eq Less a b = never b
  lt_is_not_eq Equal a b = never a
  lt_is_not_eq Greater a b = never a

  not_self : {A : Type 0} (x : K) → is_lt (R x x) ≡ true → A
  not_self x h = absurd (lt_is_not_eq (R x x) h (tied_self o x))

  -- what is in the rest of one is in the rest of the other
  in_rest : (x : K) (ys : List K) (y : K) → is_lt (R x y) ≡ true → IsIn (x ∷ ys) y → IsIn ys y
  in_rest x ys y lt (inl same) = not_self x (subst (λ w. is_lt (R x w) ≡ true) (sym same) lt)
  in_rest x ys y lt (inr rest) = rest

  same_head : (x y : K) (xs ys : List K) → Rises (x ∷ xs) → Rises (y ∷ ys) → IsIn (y ∷ ys) x → IsIn (x ∷ xs) y → x ≡ y
  same_head x y xs ys a b (inl same) there = sym same
  same_head x y xs ys a b (inr later) (inl same) = same
  same_head x y xs ys a b (inr later) (inr after) = not_both x y (below x xs y a.0 after) (below y ys x b.0 later)

  pub same_list : (xs ys : List K) → Rises xs → Rises ys → ((q : K) → IsIn xs q → IsIn ys q) → ((q : K) → IsIn ys q → IsIn xs q) → xs ≡ ys
  same_list [] [] a b there back = refl
  same_list [] (y ∷ ys) a b there back = absurd (back y (inl refl))
  same_list (x ∷ xs) [] a b there back = absurd (there x (inl refl))
  same_list (x ∷ xs) (y ∷ ys) a b there back =
      let same : x ≡ y = same_head x y xs ys a b (there x (inl refl)) (back y (inl refl)) in
      let rest : xs ≡ ys =
      same_list xs ys a.1 b.1
      (λ q within. in_rest y ys q (subst (λ w. is_lt (R w q) ≡ true) same (below x xs q a.0 within)) (there q (inr within)))
      (λ q within. in_rest x xs q (subst (λ w. is_lt (R w q) ≡ true) (sym same) (below y ys q b.0 within)) (back q (inr within))) in
      ap (λ z. z ∷ xs) same ∙ ap (λ zs. y ∷ zs) rest

  -- ---- sorted, with nothing twice

  flips : (x y : K) → eq_by_cmp R x y ≡ eq_by_cmp R y x
  flips x y = ap is_eq (o.total.antisymm x y) ∙ reversed_eq (R y x)
    where
      reversed_eq : (r : Ordering) → is_eq (ordering_reverse r) ≡ is_eq r
      reversed_eq Less = refl
      reversed_eq Equal = refl
      reversed_eq Greater = refl

  only_less : (r : Ordering) → is_lt (ordering_reverse r) ≡ false → is_eq r ≡ false → is_lt r ≡ true
  only_less Less h e = refl
  only_less Equal h e = never (sym e)
  only_less Greater h e = never (sym h)

  module _ {X : Type 0} (key : X → K) where
    abbrev below_by : X → X → Bool
    below_by x y = is_lt (R (key x) (key y))

    all_above : (x : X) (xs : List X) → ((j : ℕ) (d : X) → j < length xs → below_by (get_or xs j d) x ≡ false)
        → AllByRecursion (λ y. eq_by_cmp R (key x) y ≡ false) (map key xs) → Each (λ y. is_lt (R (key x) y) ≡ true) (map key xs)
    all_above x [] s d = tt
    all_above x (y ∷ ys) s d = (
      only_less (R (key x) (key y)) (sym (ap is_lt (o.total.antisymm (key y) (key x))) ∙ s 0 y (omega arith)) d.0,
      all_above x ys (λ j e lt. s (suc j) e (omega (arith, lt))) d.1,
    )

    pub sorted_rises : (xs : List X) → IsSortedBy below_by xs → IsDistinct (eq_by_cmp R) (map key xs) → Rises (map key xs)
    unfolding IsDistinct
    sorted_rises [] s d = tt
    sorted_rises (x ∷ xs) s d = (
      all_above x xs (λ j e lt. sorted_far below_by (ranks_by o.total key) (x ∷ xs) s 0 (suc j) e (omega arith) (omega (arith, lt))) d.0,
      sorted_rises xs (λ k e low lt.
          let next : suc k + 1 ≡ suc (k + 1) = omega arith in
          subst (λ m. below_by (get_or (x ∷ xs) m e) (get_or xs k e) ≡ false) next (s (suc k) e (omega arith) (omega (arith, lt)))) d.1,
    )

    -- the keys after a sort, where no two were the same before it
    pub after_sort : (xs ys : List X) → IsPermutation xs ys → IsSortedBy below_by ys → IsDistinct (eq_by_cmp R) (map key xs) → Rises (map key ys)
    after_sort xs ys p s d = sorted_rises ys s (IsDistinct-IsPermutation (eq_by_cmp R) flips (map key xs) (map key ys) (IsPermutation-map key xs ys p) d)
