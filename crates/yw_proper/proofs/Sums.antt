-- Sums over the numbers below a bound: how much more or less they are where terms are.
use Rattle.std.specs.Prelude.{◌≡◌, ◌⊎◌, ◌≤◌, ◌<◌, ◌+◌, ℕ, zero, suc, cond, nat_eq, refl}
use Rattle.std.proofs.Common.{sym, ◌∙◌, ap, subst, inl, inr, arith}
use Rattle.std.proofs.lemmas.Bool.{cases_lt, eq-eqb, eqb-true}
use Rattle.yw_proper.specs.Load.{total}
use Rattle.yw_state.proofs.Tests.{by_test, never}

-- two numbers are one, or they aren't
pub by_same : {G : Type 0} (m n : ℕ) → (m ≡ n → G) → (¬ (m ≡ n) → G) → G
by_same m n one two = by_test (nat_eq m n) (λ e. one (eqb-true m n e)) (λ e. two (λ same. never (sym e ∙ eq-eqb m n same)))

module _ (f g : ℕ → ℕ) where
  -- no term is greater
  pub total_less : (n : ℕ) → ((c : ℕ) → c < n → f c ≤ g c) → total f n ≤ total g n
  total_less zero each = omega arith
  total_less (suc n) each =
      let rest = total_less n (λ c less. each c (omega (arith, less))) in let last = each n (omega arith) in omega (arith, rest, last)

  module _ (p d : ℕ) (others : (c : ℕ) → ¬ (c ≡ p) → f c ≤ g c) where
    below : (n : ℕ) → n ≡ p → total f n ≤ total g n
    below n e = total_less n (λ c less. others c (λ same. absurd (omega (arith, same, less, e))))

    -- no term is greater but one
    pub total_rises : f p ≤ g p + d → (n : ℕ) → total f n ≤ total g n + d
    total_rises here zero = omega arith
    total_rises here (suc n) =
        by_same n p
        (λ e. let rest = below n e in let last : f n ≤ g n + d = subst (λ m. f m ≤ g m + d) (sym e) here in omega (arith, rest, last))
        (λ differ. let rest = total_rises here n in let last = others n differ in omega (arith, rest, last))

    -- and one is less
    pub total_falls : f p + d ≤ g p → (n : ℕ) → p < n → total f n + d ≤ total g n
    total_falls here zero within = absurd (omega (arith, within))
    total_falls here (suc n) within =
        by_same n p
        (λ e. let rest = below n e in let last : f n + d ≤ g n = subst (λ m. f m + d ≤ g m) (sym e) here in omega (arith, rest, last))
        (λ differ. let rest = total_falls here n (earlier n within differ) in let last = others n differ in omega (arith, rest, last))
      where
        earlier : (n : ℕ) → p < suc n → ¬ (n ≡ p) → p < n
        earlier n within differ = by_less (cases_lt p n)
          where
            by_less : (p < n) ⊎ (n ≤ p) → p < n
            by_less (inl less) = less
            by_less (inr most) = absurd (differ (omega (arith, most, within)))

-- a term, and two of them
pub total_has : (f : ℕ → ℕ) (p n : ℕ) → p < n → f p ≤ total f n
total_has f p n within = let all = total_falls (λ c. 0) f p (f p) (λ c other. omega arith) (omega arith) n within in omega (arith, all)

module _ (f : ℕ → ℕ) (p : ℕ) where
  abbrev at_p : ℕ → ℕ
  at_p c = cond (nat_eq c p) (f p) 0

  at_itself : at_p p ≡ f p
  at_itself = ap (λ b. cond b (f p) 0) (eq-eqb p p refl)

  nothing_else : (c : ℕ) → ¬ (c ≡ p) → at_p c ≡ 0
  nothing_else c other = by_test (nat_eq c p) (λ e. absurd (other (eqb-true c p e))) (λ e. ap (λ b. cond b (f p) 0) e)

  at_most : (c : ℕ) → at_p c ≤ f c
  at_most c =
      by_same c p
      (λ e. subst (λ d. at_p d ≤ f d) (sym e) (omega (arith, at_itself)))
      (λ other. let none = nothing_else c other in omega (arith, none))

  pub total_has_two : (q n : ℕ) → ¬ (q ≡ p) → p < n → q < n → f p + f q ≤ total f n
  total_has_two q n apart in_p in_q =
      let one = total_has at_p p n in_p in
      let none = nothing_else q apart in
      let all = total_falls at_p f q (f q) (λ c other. at_most c) (omega (arith, none)) n in_q in
      omega (arith, one, all, at_itself)
