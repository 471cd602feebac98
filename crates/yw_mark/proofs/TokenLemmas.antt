-- How many tokens there are after some are taken.
use Rattle.std.proofs.Common.{◌≡◌, ℕ, ◌+◌, ◌-◌, inl, inr, false, cond, List, [], ◌∷◌, length, get_or, set, refl, sym, ap, ◌∙◌, subst, arith, get_or-set_same, get_or-set_other}
use Rattle.std.specs.Prelude.{count_by, filter, fold, nat_eq}
use Rattle.std.proofs.lemmas.Bool.{cases_Bool, cases_eq, cases_lt, eq-eqb, ltb-false, ne_eqb}
use Rattle.std.proofs.lemmas.List.{length-set, get_or_past, set-get_or}
use Rattle.std.proofs.lemmas.List.Sums.{sum_by-cons}
use Rattle.std.proofs.lemmas.Option.{unwrap_or-slice_get}
use Rattle.yw_mark.specs.Tokens.{TakesEach, is_marked}
use Rattle.yw_state.specs.After.{count_on, one_less}

-- a count is what stands at its place
pub count_at : (m : List ℕ) (c : ℕ) → count_on m c ≡ get_or m c 0
count_at m c = unwrap_or-slice_get m c 0

-- ---- one token less

pub count-one_less_same : (m : List ℕ) (c : ℕ) → count_on (one_less m c) c ≡ count_on m c - 1
count-one_less_same m c =
    let n = count_on m c - 1 in
    count_at (set m c n) c ∙ elim (cases_lt c (length m)) [
      | inl lt ↦ get_or-set_same m c n 0 lt
      | inr past ↦ get_or_past (set m c n) c 0 (omega (arith, length-set m c n, past)) ∙ omega (arith, count_at m c, get_or_past m c 0 past)
    ]

pub count-one_less_other : (m : List ℕ) (c k : ℕ) → (k ≡ c → ⊥) → count_on (one_less m c) k ≡ count_on m k
count-one_less_other m c k ne = count_at (one_less m c) k ∙ get_or-set_other m c k (count_on m c - 1) 0 ne ∙ sym (count_at m k)

-- a place without a token stays so
pub count-one_less_none : (m : List ℕ) (c k : ℕ) → count_on m k ≡ 0 → count_on (one_less m c) k ≡ 0
count-one_less_none m c k none = elim (cases_eq k c) [
  | inl is ↦ let P : ℕ → Type 0 = λ j. count_on (one_less m j) k ≡ 0 in subst P is (count-one_less_same m k ∙ omega (arith, none))
  | inr other ↦ count-one_less_other m c k other ∙ none
]

-- where no token is, none is taken
one_less-none : (m : List ℕ) (c : ℕ) → count_on m c ≡ 0 → one_less m c ≡ m
one_less-none m c none =
    let n : count_on m c - 1 ≡ get_or m c 0 = omega (arith, none, count_at m c) in
    ap (set m c) n ∙ set-get_or m c 0

-- ---- tokens from several places

count_step : (m : List ℕ) (p c n : ℕ) → count_on (one_less m p) c - n ≡ count_on m c - (cond (nat_eq c p) 1 0 + n)
count_step m p c n = elim (cases_eq c p) [
  | inl is ↦
      let P : ℕ → Type 0 = λ j. count_on (one_less m j) c ≡ count_on m c - 1 in
      let less = subst P is (count-one_less_same m c) in
      let one = ap {B = ℕ} (λ b. cond b 1 0) (eq-eqb c p is) in
      omega (arith, less, one)
  | inr other ↦
      let same = count-one_less_other m p c other in
      let none = ap {B = ℕ} (λ b. cond b 1 0) (ne_eqb c p other) in
      omega (arith, same, none)
]

pub count-fold : (m places : List ℕ) (c : ℕ) → count_on (fold one_less m places) c ≡ count_on m c - count_by (nat_eq c) places
count-fold m [] c = omega arith
count-fold m (p ∷ ps) c =
    count-fold (one_less m p) ps c
    ∙ count_step m p c (count_by (nat_eq c) ps)
    ∙ ap (λ n. count_on m c - n) (sym (sum_by-cons (λ x. cond (nat_eq c x) 1 0) p ps))

length-fold : (m places : List ℕ) → length (fold one_less m places) ≡ length m
length-fold m [] = refl
length-fold m (p ∷ ps) = length-fold (one_less m p) ps ∙ length-set m p (count_on m p - 1)

pub takes_each : (places old new : List ℕ) → new ≡ fold one_less old places → TakesEach places old new
takes_each places old new e = record {
  less = e;
  counts = λ c. ap (λ m. count_on m c) e ∙ count-fold old places c;
  len = ap length e ∙ length-fold old places;
}

-- ---- tokens from all marked places

unmarked : (m : List ℕ) (c : ℕ) → is_marked m c ≡ false → count_on m c ≡ 0
unmarked m c free = omega (arith, ltb-false 0 (count_on m c) free)

-- from marked places alone, or from all of them
fold-marked : (first m places : List ℕ) → ((c : ℕ) → is_marked first c ≡ false → count_on m c ≡ 0) → fold one_less m (filter (is_marked first) places) ≡ fold one_less m places
fold-marked first m [] none = refl
fold-marked first m (p ∷ ps) none = elim (cases_Bool (is_marked first p)) [
  | inl met ↦
      ap (λ b. fold one_less m (cond b (p ∷ filter (is_marked first) ps) (filter (is_marked first) ps))) met
      ∙ fold-marked first (one_less m p) ps (λ c free. count-one_less_none m p c (none c free))
  | inr unmet ↦
      ap (λ b. fold one_less m (cond b (p ∷ filter (is_marked first) ps) (filter (is_marked first) ps))) unmet
      ∙ fold-marked first m ps none
      ∙ ap (λ m2. fold one_less m2 ps) (sym (one_less-none m p (none p unmet)))
]

pub takes_marked : (places old new : List ℕ) → TakesEach places old new → TakesEach (filter (is_marked old) places) old new
takes_marked places old new h = takes_each (filter (is_marked old) places) old new (h.less ∙ sym (fold-marked old old places (unmarked old)))
