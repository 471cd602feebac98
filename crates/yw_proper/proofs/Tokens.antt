-- What the tokens of a net weigh where tokens are taken, places are emptied, or each of several places gets one.
use Rattle.std.specs.Prelude.{◌≡◌, ◌≤◌, ◌<◌, ◌+◌, ◌-◌, ◌*◌, ◌||◌, ℕ, zero, suc, Bool, true, false, not, List, [], ◌∷◌, cond, filter, fold, nat_eq, nat_le, slice_set, replicate, refl}
use Rattle.std.specs.List.{list_all}
use Rattle.std.proofs.Common.{sym, ◌∙◌, ap, subst, arith}
use Rattle.std.proofs.Math.Nat.{mul-le-mul_right}
use Rattle.std.proofs.lemmas.Bool.{and_parts, eq-eqb, leb-true, not-true}
use Rattle.std.proofs.lemmas.List.Sums.{sum_by-cons}
use Rattle.yw_proper.proofs.Sums.{by_same, total_falls, total_less, total_rises}
use Rattle.yw_proper.specs.Load.{total}
use Rattle.yw_proper.specs.Proper.{weight_of_each, weight_of_place}
use Rattle.yw_sound.specs.Sound.{are_apart}
use Rattle.yw_state.proofs.Tests.{by_test, never}
use Rattle.yw_state.specs.After.{count_on, no_more, one_less, one_more}
use Rattle.yw_state.specs.Nets.{is_among}

-- ---- counts after one is set

elsewhere : (tokens : List ℕ) (d n c : ℕ) → ¬ (c ≡ d) → count_on (slice_set tokens d n) c ≡ count_on tokens c
elsewhere [] d n c other = refl
elsewhere (m ∷ tokens) zero n zero other = absurd (other refl)
elsewhere (m ∷ tokens) zero n (suc c) other = refl
elsewhere (m ∷ tokens) (suc d) n zero other = refl
elsewhere (m ∷ tokens) (suc d) n (suc c) other = elsewhere tokens d n c (λ e. other (ap suc e))

here_most : (tokens : List ℕ) (d n : ℕ) → count_on (slice_set tokens d n) d ≤ n
here_most [] d n = omega arith
here_most (m ∷ tokens) zero n = omega arith
here_most (m ∷ tokens) (suc d) n = here_most tokens d n

-- it is set to no more than was there
set_fewer : (tokens : List ℕ) (d n c : ℕ) → n ≤ count_on tokens d → count_on (slice_set tokens d n) c ≤ count_on tokens c
set_fewer tokens d n c less =
    by_same c d
    (λ e. subst (λ k. count_on (slice_set tokens d n) k ≤ count_on tokens k) (sym e) (let most = here_most tokens d n in omega (arith, most, less)))
    (λ other. let same = elsewhere tokens d n c other in omega (arith, same))

pub taken_fewer : (cs tokens : List ℕ) (c : ℕ) → count_on (fold one_less tokens cs) c ≤ count_on tokens c
taken_fewer [] tokens c = omega arith
taken_fewer (d ∷ cs) tokens c =
    let rest = taken_fewer cs (one_less tokens d) c in let first = set_fewer tokens d (count_on tokens d - 1) c (omega arith) in omega (arith, rest, first)

pub emptied_fewer : (cs tokens : List ℕ) (c : ℕ) → count_on (fold no_more tokens cs) c ≤ count_on tokens c
emptied_fewer [] tokens c = omega arith
emptied_fewer (d ∷ cs) tokens c =
    let rest = emptied_fewer cs (no_more tokens d) c in let first = set_fewer tokens d 0 c (omega arith) in omega (arith, rest, first)

-- one token on the input
abbrev pub begun : ℕ → ℕ → ℕ
begun input c = cond (nat_eq c input) 1 0

pub begun_fewer : (places input c : ℕ) → count_on (slice_set (replicate places 0) input 1) c ≤ begun input c
begun_fewer places input c =
    by_same c input
    (λ e.
    let most = here_most (replicate places 0) input 1 in
    let one : begun input c ≡ 1 = ap (λ (b : Bool). cond {A = ℕ} b 1 0) (eq-eqb c input e) in
    let there : count_on (slice_set (replicate places 0) input 1) c ≡ count_on (slice_set (replicate places 0) input 1) input = ap (count_on (slice_set (replicate places 0) input 1)) e in
    omega (arith, most, one, there))
    (λ other. let same = elsewhere (replicate places 0) input 1 c other in let nothing = no_tokens places c in omega (arith, same, nothing))
  where
    no_tokens : (places c : ℕ) → count_on (replicate places 0) c ≡ 0
    no_tokens zero c = refl
    no_tokens (suc places) zero = refl
    no_tokens (suc places) (suc c) = no_tokens places c

-- ---- what they weigh

module _ (w : List ℕ) (places : ℕ) where
  abbrev pub weigh : List ℕ → ℕ
  weigh tokens = total (λ c. count_on tokens c * weight_of_place w c) places

  lighter : (m n c : ℕ) → m ≤ n → m * weight_of_place w c ≤ n * weight_of_place w c
  lighter m n c less = mul-le-mul_right (weight_of_place w c) less

  pub weigh_less : (now before : List ℕ) → ((c : ℕ) → count_on now c ≤ count_on before c) → weigh now ≤ weigh before
  weigh_less now before fewer =
      total_less (λ c. count_on now c * weight_of_place w c) (λ c. count_on before c * weight_of_place w c) places (λ c within. lighter (count_on now c) (count_on before c) c (fewer c))

  others : (tokens : List ℕ) (d n c : ℕ) → ¬ (c ≡ d) → count_on (slice_set tokens d n) c * weight_of_place w c ≤ count_on tokens c * weight_of_place w c
  others tokens d n c other = let same = elsewhere tokens d n c other in lighter (count_on (slice_set tokens d n) c) (count_on tokens c) c (omega (arith, same))

  -- a token is taken that is there
  taken_one : (tokens : List ℕ) (d : ℕ) → d < places → 1 ≤ count_on tokens d → weigh (one_less tokens d) + weight_of_place w d ≤ weigh tokens
  taken_one tokens d within marked =
      total_falls (λ c. count_on (one_less tokens d) c * weight_of_place w c) (λ c. count_on tokens c * weight_of_place w c) d (weight_of_place w d)
      (others tokens d (count_on tokens d - 1)) less places within
    where
      less : count_on (one_less tokens d) d * weight_of_place w d + weight_of_place w d ≤ count_on tokens d * weight_of_place w d
      less =
          let most = here_most tokens d (count_on tokens d - 1) in
          let more : (count_on (one_less tokens d) d + 1) * weight_of_place w d ≤ count_on tokens d * weight_of_place w d =
          lighter (count_on (one_less tokens d) d + 1) (count_on tokens d) d (omega (arith, most, marked)) in
          omega (arith, more)

  -- from the first of these
  pub taken_some : (d : ℕ) (cs tokens : List ℕ) → d < places → 1 ≤ count_on tokens d → weigh (fold one_less tokens (d ∷ cs)) + weight_of_place w d ≤ weigh tokens
  taken_some d cs tokens within marked =
      let first = taken_one tokens d within marked in
      let rest = weigh_less (fold one_less (one_less tokens d) cs) (one_less tokens d) (taken_fewer cs (one_less tokens d)) in
      omega (arith, first, rest)

  abbrev AreMarked : List ℕ → List ℕ → Type 0
  AreMarked tokens cs = (c : ℕ) → is_among cs c ≡ true → (c < places) × (1 ≤ count_on tokens c)

  -- from each of these, of which none comes twice
  pub taken_each : (cs tokens : List ℕ) → are_apart cs ≡ true → AreMarked tokens cs → weigh (fold one_less tokens cs) + weight_of_each w cs ≤ weigh tokens
  taken_each [] tokens apart marked = omega arith
  taken_each (d ∷ cs) tokens apart marked =
      let once = and_parts (not (is_among cs d)) (are_apart cs) apart in
      let (within, there) = marked d (ap (λ b. b || is_among cs d) (eq-eqb d d refl)) in
      let first = taken_one tokens d within there in
      let rest = taken_each cs (one_less tokens d) once.1 (later (not-true (is_among cs d) once.0)) in
      let whole = sum_by-cons (weight_of_place w) d cs in
      omega (arith, first, rest, whole)
    where
      later : is_among cs d ≡ false → AreMarked (one_less tokens d) cs
      later free c among =
          let (within, there) = marked c (behind (nat_eq c d)) in
          let same = elsewhere tokens d (count_on tokens d - 1) c (λ e. never (sym free ∙ ap (is_among cs) (sym e) ∙ among)) in
          (within, omega (arith, same, there))
        where
          behind : (b : Bool) → (b || is_among cs c) ≡ true
          behind true = refl
          behind false = among

  -- each of these gets one
  pub put_each : (cs tokens : List ℕ) → weigh (fold one_more tokens cs) ≤ weigh tokens + weight_of_each w cs
  put_each [] tokens = omega arith
  put_each (d ∷ cs) tokens =
      let first =
      total_rises (λ c. count_on (one_more tokens d) c * weight_of_place w c) (λ c. count_on tokens c * weight_of_place w c) d (weight_of_place w d)
      (others tokens d (count_on tokens d + 1)) more places in
      let rest = put_each cs (one_more tokens d) in
      let whole = sum_by-cons (weight_of_place w) d cs in
      omega (arith, first, rest, whole)
    where
      more : count_on (one_more tokens d) d * weight_of_place w d ≤ count_on tokens d * weight_of_place w d + weight_of_place w d
      more =
          let most = lighter (count_on (one_more tokens d) d) (count_on tokens d + 1) d (here_most tokens d (count_on tokens d + 1)) in omega (arith, most)

  -- ---- some of several places

  pub filter_weighs : (p : ℕ → Bool) (cs : List ℕ) → weight_of_each w (filter p cs) ≤ weight_of_each w cs
  filter_weighs p [] = omega arith
  filter_weighs p (c ∷ cs) =
      let rest = filter_weighs p cs in
      let whole = sum_by-cons (weight_of_place w) c cs in
      let kept = sum_by-cons (weight_of_place w) c (filter p cs) in
      elim (p c) as (λ b. weight_of_each w (cond b (c ∷ filter p cs) (filter p cs)) ≤ weight_of_each w (c ∷ cs)) [
        | true ↦ omega (arith, rest, whole, kept)
        | false ↦ omega (arith, rest, whole)
      ]

  -- at most one passes, and none weighs more than this
  pub one_weighs : (p : ℕ → Bool) (own : ℕ) (cs : List ℕ) → are_apart cs ≡ true → ((c d : ℕ) → p c ≡ true → p d ≡ true → c ≡ d) → list_all (λ c. nat_le (weight_of_place w c) own) cs ≡ true
      → weight_of_each w (filter p cs) ≤ own
  one_weighs p own [] apart one light = omega arith
  one_weighs p own (c ∷ cs) apart one light =
      let once = and_parts (not (is_among cs c)) (are_apart cs) apart in
      let all = and_parts (nat_le (weight_of_place w c) own) (list_all (λ d. nat_le (weight_of_place w d) own) cs) light in
      by_test (p c)
      (λ here.
      let rest = none_weighs cs (λ d among. by_test (p d) (λ there. never (sym (not-true (is_among cs c) once.0) ∙ ap (is_among cs) (one c d here there) ∙ among)) (λ e. e)) in
      let kept = sum_by-cons (weight_of_place w) c (filter p cs) in
      let this = leb-true (weight_of_place w c) own all.0 in
      let is : weight_of_each w (cond (p c) (c ∷ filter p cs) (filter p cs)) ≡ weight_of_each w (c ∷ filter p cs) = ap (λ b. weight_of_each w (cond b (c ∷ filter p cs) (filter p cs))) here in
      omega (arith, rest, kept, this, is))
      (λ gone.
      let rest = one_weighs p own cs once.1 one all.1 in
      let is : weight_of_each w (cond (p c) (c ∷ filter p cs) (filter p cs)) ≡ weight_of_each w (filter p cs) = ap (λ b. weight_of_each w (cond b (c ∷ filter p cs) (filter p cs))) gone in
      omega (arith, rest, is))
    where
      none_weighs : (ds : List ℕ) → ((d : ℕ) → is_among ds d ≡ true → p d ≡ false) → weight_of_each w (filter p ds) ≡ 0
      none_weighs [] fails = refl
      none_weighs (d ∷ ds) fails =
          ap (λ b. weight_of_each w (cond b (d ∷ filter p ds) (filter p ds))) (fails d (ap (λ b. b || is_among ds d) (eq-eqb d d refl)))
          ∙ none_weighs ds (λ e among. fails e (behind (nat_eq e d) (is_among ds e) among))
        where
          behind : (a b : Bool) → b ≡ true → (a || b) ≡ true
          behind true b among = refl
          behind false b among = among
