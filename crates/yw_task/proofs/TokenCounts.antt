-- How many tokens there are after some come.
use Rattle.std.proofs.Common.{List, [], ap, arith, false, length, refl, suc, sym, true, zero, ℕ, ◌+◌, ◌∙◌, ◌∷◌, ◌≡◌, ◌≤◌}
use Rattle.std.proofs.lemmas.Bool.{eqb-true}
use Rattle.std.specs.Prelude.{◌||◌, fold, nat_eq}
use Rattle.yw_state.proofs.Tests.{by_test, never}
use Rattle.yw_state.specs.After.{count_on, no_more, one_more}
use Rattle.yw_state.specs.Nets.{is_among}

count_grows : (m : List ℕ) (c k : ℕ) → count_on (one_more m c) k ≤ count_on m k + 1
count_grows [] c k = omega arith
count_grows (x ∷ m) zero zero = omega arith
count_grows (x ∷ m) zero (suc k) = omega arith
count_grows (x ∷ m) (suc c) zero = omega arith
count_grows (x ∷ m) (suc c) (suc k) = count_grows m c k

-- of so many tokens that come no place gets more
pub counts_grow : (m cs : List ℕ) (k : ℕ) → count_on (fold one_more m cs) k ≤ count_on m k + length cs
counts_grow m [] k = omega arith
counts_grow m (c ∷ cs) k = omega (arith, counts_grow (one_more m c) cs k, count_grows m c k)

-- ---- where all go

count_falls : (m : List ℕ) (c k : ℕ) → count_on (no_more m c) k ≤ count_on m k
count_falls [] c k = omega arith
count_falls (x ∷ m) zero zero = omega arith
count_falls (x ∷ m) zero (suc k) = omega arith
count_falls (x ∷ m) (suc c) zero = omega arith
count_falls (x ∷ m) (suc c) (suc k) = count_falls m c k

count_gone : (m : List ℕ) (c : ℕ) → count_on (no_more m c) c ≡ 0
count_gone [] c = refl
count_gone (x ∷ m) zero = refl
count_gone (x ∷ m) (suc c) = count_gone m c

-- no place gets more
pub counts_fall : (m cs : List ℕ) (k : ℕ) → count_on (fold no_more m cs) k ≤ count_on m k
counts_fall m [] k = omega arith
counts_fall m (c ∷ cs) k = omega (arith, counts_fall (no_more m c) cs k, count_falls m c k)

-- and none of these has any
pub counts_gone : (m cs : List ℕ) (k : ℕ) → is_among cs k ≡ true → count_on (fold no_more m cs) k ≡ 0
counts_gone m [] k e = never e
counts_gone m (c ∷ cs) k e =
    by_test (nat_eq k c)
    (λ (t : nat_eq k c ≡ true).
    let here : count_on (no_more m c) k ≡ 0 = ap (count_on (no_more m c)) (eqb-true k c t) ∙ count_gone m c in
    omega (arith, counts_fall (no_more m c) cs k, here))
    (λ (t : nat_eq k c ≡ false). counts_gone (no_more m c) cs k (sym (ap (λ b. b || is_among cs k) t) ∙ e))
