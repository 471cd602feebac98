-- Counts of tokens stay within their bounds where tokens are taken, where places are wiped, and where each of several places gets a token.
use Rattle.std.specs.Prelude.{◌≡◌, ◌⊎◌, ◌≤◌, ◌<◌, ◌+◌, ◌-◌, ◌||◌, ℕ, zero, suc, Bool, true, false, not, List, [], ◌∷◌, length, fold, filter, cond, Option, Some, None, unwrap_or, slice_get, slice_set, nat_eq, nat_lt, All, refl}
use Rattle.std.proofs.Common.{sym, ◌∙◌, ap, subst, inl, inr, arith, length-set}
use Rattle.std.proofs.lemmas.Bool.{and_from, and_parts, eq-eqb, eqb-true, ltb-true, not-true, not_from_false}
use Rattle.std.proofs.lemmas.List.Elements.{All-set}
use Rattle.std.proofs.lemmas.Option.{get_or_from_slice_get, slice_get_within}
use Rattle.yw_sound.specs.Sound.{are_apart}
use Rattle.yw_state.proofs.MapLemmas.{never}
use Rattle.yw_state.proofs.Tests.{or_cases}
use Rattle.yw_state.specs.Allowed.{most_tokens}
use Rattle.yw_state.specs.Nets.{is_among}

abbrev pub count : List ℕ → ℕ → ℕ
count tokens c = unwrap_or (slice_get tokens c) 0

abbrev pub none_on : List ℕ → ℕ → List ℕ
none_on tokens c = slice_set tokens c 0

abbrev pub one_on : List ℕ → ℕ → List ℕ
one_on tokens c = slice_set tokens c (count tokens c + 1)

abbrev pub AreFew : List ℕ → Type 0
AreFew tokens = All (λ k. k ≤ most_tokens) tokens

-- a count is as before, or is what was set
count_set : (tokens : List ℕ) (d n c : ℕ) → (count (slice_set tokens d n) c ≡ count tokens c) ⊎ ((c ≡ d) × (count (slice_set tokens d n) c ≡ n))
count_set [] d n c = inl refl
count_set (m ∷ tokens) zero n zero = inr (refl, refl)
count_set (m ∷ tokens) zero n (suc c) = inl refl
count_set (m ∷ tokens) (suc d) n zero = inl refl
count_set (m ∷ tokens) (suc d) n (suc c) = elim (count_set tokens d n c) [
  | inl same ↦ inl same
  | inr here ↦ inr (ap suc here.0, here.1)
]

-- ---- tokens are taken

abbrev pub one_less : List ℕ → ℕ → List ℕ
one_less tokens c = slice_set tokens c (count tokens c - 1)

pub taken_length : (cs tokens : List ℕ) → length (fold one_less tokens cs) ≡ length tokens
taken_length [] tokens = refl
taken_length (c ∷ cs) tokens = taken_length cs (one_less tokens c) ∙ length-set tokens c (count tokens c - 1)

less_than_there : (tokens : List ℕ) (c : ℕ) → AreFew tokens → (o : Option ℕ) → slice_get tokens c ≡ o → unwrap_or o 0 - 1 ≤ most_tokens
less_than_there tokens c few None e = omega arith
less_than_there tokens c few (Some k) e =
    let less = few c k (slice_get_within tokens c k e) in let is = get_or_from_slice_get tokens c k k e in omega (arith, less, is)

pub taken_few : (cs tokens : List ℕ) → AreFew tokens → AreFew (fold one_less tokens cs)
taken_few [] tokens few = few
taken_few (c ∷ cs) tokens few =
    taken_few cs (one_less tokens c) (All-set (λ k. k ≤ most_tokens) tokens c (count tokens c - 1) (less_than_there tokens c few (slice_get tokens c) refl) few)

-- ---- places are wiped

pub wiped_length : (ds tokens : List ℕ) → length (fold none_on tokens ds) ≡ length tokens
wiped_length [] tokens = refl
wiped_length (d ∷ ds) tokens = wiped_length ds (none_on tokens d) ∙ length-set tokens d 0

pub wiped_few : (ds tokens : List ℕ) → AreFew tokens → AreFew (fold none_on tokens ds)
wiped_few [] tokens few = few
wiped_few (d ∷ ds) tokens few = wiped_few ds (none_on tokens d) (All-set (λ k. k ≤ most_tokens) tokens d 0 (omega arith) few)

at_itself : (ts : List ℕ) (e : ℕ) → count (none_on ts e) e < most_tokens
at_itself [] e = omega arith
at_itself (m ∷ ts) zero = omega arith
at_itself (m ∷ ts) (suc e) = at_itself ts e

-- a place that is wiped, or has room before, has room then
wiped_room : (ds tokens : List ℕ) (c : ℕ) → (is_among ds c ≡ true) ⊎ (count tokens c < most_tokens) → count (fold none_on tokens ds) c < most_tokens
wiped_room [] tokens c (inl within) = never within
wiped_room [] tokens c (inr room) = room
wiped_room (d ∷ ds) tokens c before = elim (count_set tokens d 0 c) [
  | inl same ↦ wiped_room ds (none_on tokens d) c (still same before)
  | inr here ↦ wiped_room ds (none_on tokens d) c (inr (empty here.1))
]
  where
    empty : count (none_on tokens d) c ≡ 0 → count (none_on tokens d) c < most_tokens
    empty e = omega (arith, e)

    still : count (none_on tokens d) c ≡ count tokens c → (is_among (d ∷ ds) c ≡ true) ⊎ (count tokens c < most_tokens) → (is_among ds c ≡ true) ⊎ (count (none_on tokens d) c < most_tokens)
    still same (inr room) = inr (omega (arith, same, room))
    still same (inl within) = elim (or_cases (nat_eq c d) (is_among ds c) within) [
      | inl here ↦ inr (subst (λ e. count (none_on tokens e) c < most_tokens) (eqb-true c d here) (at_itself tokens c))
      | inr rest ↦ inl rest
    ]

pub room_once_wiped : (ds tokens : List ℕ) (c : ℕ) → (is_among ds c || nat_lt (count tokens c) most_tokens) ≡ true → count (fold none_on tokens ds) c < most_tokens
room_once_wiped ds tokens c e = elim (or_cases (is_among ds c) (nat_lt (count tokens c) most_tokens) e) [
  | inl within ↦ wiped_room ds tokens c (inl within)
  | inr room ↦ wiped_room ds tokens c (inr (ltb-true (count tokens c) most_tokens room))
]

-- ---- each of the places gets one

pub given_length : (cs tokens : List ℕ) → length (fold one_on tokens cs) ≡ length tokens
given_length [] tokens = refl
given_length (c ∷ cs) tokens = given_length cs (one_on tokens c) ∙ length-set tokens c (count tokens c + 1)

behind : (c : ℕ) (cs : List ℕ) (d : ℕ) → is_among cs d ≡ true → is_among (c ∷ cs) d ≡ true
behind c cs d within = elim (nat_eq d c) as (λ b. (b || is_among cs d) ≡ true) [ true ↦ refl | false ↦ within ]

-- no place comes twice, and each has room
pub given_few : (cs tokens : List ℕ) → are_apart cs ≡ true → ((c : ℕ) → is_among cs c ≡ true → count tokens c < most_tokens) → AreFew tokens → AreFew (fold one_on tokens cs)
given_few [] tokens once room few = few
given_few (c ∷ cs) tokens once room few =
    let parts = and_parts (not (is_among cs c)) (are_apart cs) once in
    let here = room c (first c cs) in
    given_few cs (one_on tokens c) parts.1 (later parts.0) (All-set (λ k. k ≤ most_tokens) tokens c (count tokens c + 1) (omega (arith, here)) few)
  where
    first : (c : ℕ) (cs : List ℕ) → is_among (c ∷ cs) c ≡ true
    first c cs = ap (λ b. b || is_among cs c) (eq-eqb c c refl)

    later : not (is_among cs c) ≡ true → (d : ℕ) → is_among cs d ≡ true → count (one_on tokens c) d < most_tokens
    later other d within = elim (count_set tokens c (count tokens c + 1) d) [
      | inl same ↦ subst (λ k. k < most_tokens) (sym same) (room d (behind c cs d within))
      | inr here ↦ never (sym (not-true (is_among cs c) other) ∙ ap (is_among cs) (sym here.0) ∙ within)
    ]

-- what is among those that pass is among all
pub apart_where : (p : ℕ → Bool) (cs : List ℕ) → are_apart cs ≡ true → are_apart (filter p cs) ≡ true
apart_where p [] once = refl
apart_where p (c ∷ cs) once =
    let parts = and_parts (not (is_among cs c)) (are_apart cs) once in
    elim (p c) as (λ b. are_apart (cond b (c ∷ filter p cs) (filter p cs)) ≡ true) [
      | true ↦ and_from _ _ (not_from_false _ (fewer cs c (not-true (is_among cs c) parts.0))) (apart_where p cs parts.1)
      | false ↦ apart_where p cs parts.1
    ]
  where
    neither : (a b : Bool) → (a || b) ≡ false → (a ≡ false) × (b ≡ false)
    neither true b e = never (sym e)
    neither false b e = (refl, e)

    fewer : (ds : List ℕ) (c : ℕ) → is_among ds c ≡ false → is_among (filter p ds) c ≡ false
    fewer [] c e = refl
    fewer (d ∷ ds) c e =
        let both = neither (nat_eq c d) (is_among ds c) e in
        elim (p d) as (λ b. is_among (cond b (d ∷ filter p ds) (filter p ds)) c ≡ false) [
          | true ↦ ap (λ b. b || is_among (filter p ds) c) both.0 ∙ fewer ds c both.1
          | false ↦ fewer ds c both.1
        ]
