-- How many of a list pass a test, asked of what each stands for.
use Rattle.std.proofs.Common.{Bool, List, [], ap, arith, cond, drop, false, get_or, length, map, refl, suc, sym, take, true, ℕ, ◌∙◌, ◌∷◌, ◌≡◌, ◌≤◌, ◌<◌, ◌+◌, ◌-◌}
use Rattle.std.proofs.lemmas.Bool.{eq-eqb, eqb-true, false_from_ne_true, lt-leb}
use Rattle.std.proofs.lemmas.List.{length-take-le}
use Rattle.std.specs.List.{list_all}
use Rattle.std.proofs.lemmas.List.Sums.{count_by-le-length, length-filter, sum_by-drop_more, sum_by-take-drop}
use Rattle.std.specs.Prelude.{count_by, filter, nat_le, ◌==◌, ◌&&◌}
use Rattle.yw_sites.specs.Idents.{Each}
use Rattle.yw_state.proofs.Tests.{by_test, never}

one_more : (m n : ℕ) → (m == n) ≡ (suc m == suc n)
one_more m n =
    by_test (m == n)
    (λ (t : (m == n) ≡ true). t ∙ sym (eq-eqb (suc m) (suc n) (ap (λ k. suc k) (eqb-true m n t))))
    (λ (t : (m == n) ≡ false). t ∙ sym (false_from_ne_true (suc m == suc n) (λ e.
    let more : suc m ≡ suc n = eqb-true (suc m) (suc n) e in
    let same : m ≡ n = omega arith in
    never (sym t ∙ eq-eqb m n same))))

module _ {A : Type 0} where
  most_step : (b : Bool) (x : A) (ys xs : List A) → length ys ≤ length xs → length (cond b (x ∷ ys) ys) ≤ length (x ∷ xs)
  most_step true x ys xs l = omega arith
  most_step false x ys xs l = omega arith

  all_step : (b all : Bool) (x : A) (ys xs : List A) → length ys ≤ length xs → all ≡ (length ys == length xs) → (b && all) ≡ (length (cond b (x ∷ ys) ys) == length (x ∷ xs))
  all_step true all x ys xs l e = e ∙ one_more (length ys) (length xs)
  all_step false all x ys xs l e = sym (false_from_ne_true (length ys == length (x ∷ xs)) (λ t.
      let same : length ys ≡ length (x ∷ xs) = eqb-true (length ys) (length (x ∷ xs)) t in
      absurd (omega arith)))

  module _ (q : A → Bool) where
    -- no more pass than there are
    at_most : (xs : List A) → length (filter q xs) ≤ length xs
    at_most [] = omega arith
    at_most (x ∷ xs) = most_step (q x) x (filter q xs) xs (at_most xs)

    -- all pass exactly where as many pass as there are
    all_filtered : (xs : List A) → list_all q xs ≡ (length (filter q xs) == length xs)
    all_filtered [] = refl
    all_filtered (x ∷ xs) = all_step (q x) (list_all q xs) x (filter q xs) xs (at_most xs) (all_filtered xs)

    pub all_counted : (xs : List A) → list_all q xs ≡ (count_by q xs == length xs)
    all_counted xs = all_filtered xs ∙ ap (λ k. k == length xs) (length-filter q xs)

both_step : {A B : Type 0} (b : Bool) (x : A) (y : B) (xs : List A) (ys : List B) → length ys ≡ length xs → length (cond b (y ∷ ys) ys) ≡ length (cond b (x ∷ xs) xs)
both_step true x y xs ys e = ap (λ k. suc k) e
both_step false x y xs ys e = e

module _ {A B : Type 0} (p : B → Bool) (q : A → Bool) (f : A → B) where
  pub all_same : (xs : List A) → Each (λ x. p (f x) ≡ q x) xs → list_all p (map f xs) ≡ list_all q xs
  all_same [] h = refl
  all_same (x ∷ xs) h = λ j. h.0 j && all_same xs h.1 j

  kept_same : (xs : List A) → Each (λ x. p (f x) ≡ q x) xs → length (filter p (map f xs)) ≡ length (filter q xs)
  kept_same [] h = refl
  kept_same (x ∷ xs) h =
      ap (λ b. length (cond b (f x ∷ filter p (map f xs)) (filter p (map f xs)))) h.0
      ∙ both_step (q x) x (f x) (filter q xs) (filter p (map f xs)) (kept_same xs h.1)

  pub count_same : (xs : List A) → Each (λ x. p (f x) ≡ q x) xs → length (filter p (map f xs)) ≡ count_by q xs
  count_same xs h = kept_same xs h ∙ length-filter q xs

-- ---- asked from the last on

module _ {A : Type 0} (p : A → Bool) (xs : List A) where
  -- Behind the first i no more are left out than may be, and of the first i the last is left out too, so fewer pass than are wanted.
  pub too_few_pass : (i spare wanted : ℕ) (x : A) → 0 < i → i ≤ length xs → x ≡ get_or xs (i - 1) x → p x ≡ false
      → spare ≡ 0 → spare + wanted ≡ i + count_by p (drop i xs) → nat_le wanted (count_by p xs) ≡ false
  too_few_pass i spare wanted x some within at fails none as_many =
      let one : Bool → ℕ = λ b. cond b 1 0 in
      let f : A → ℕ = λ y. one (p y) in
      let k : ℕ = i - 1 in
      let next : k + 1 ≡ i = omega (arith, some) in
      let last : f (get_or xs k x) ≡ 0 = ap f (sym at) ∙ ap one fails in
      let most : count_by p (take k xs) ≤ length (take k xs) = count_by-le-length p (take k xs) in
      let long : length (take k xs) ≡ k = length-take-le k xs (omega (arith, next, within)) in
      let behind : count_by p (drop k xs) ≡ f (get_or xs k x) + count_by p (drop (k + 1) xs) =
      sum_by-drop_more f xs k x (omega (arith, next, within)) in
      let all : count_by p (take k xs) + count_by p (drop k xs) ≡ count_by p xs = sum_by-take-drop f xs k in
      let wants : spare + wanted ≡ i + count_by p (drop (k + 1) xs) = as_many ∙ ap (λ n. i + count_by p (drop n xs)) (sym next) in
      lt-leb wanted (count_by p xs) (omega (arith, next, last, most, long, behind, all, none, wants))
