-- The longest fronts of each kind.
use Rattle.std.proofs.Common.{◌≡◌, ◌≢◌, ℕ, zero, suc, ◌+◌, ◌-◌, ◌*◌, ◌<◌, ◌≤◌, ◌&&◌, ◌||◌, Bool, true, false, eqb, ltb, leb, List, [], ◌∷◌, ◌++◌, length, get_or, take, drop, ◌⊎◌, inl, inr, refl, sym, ap, ◌∙◌, subst, arith, below_more, length-append}
use Rattle.std.specs.Prelude.{fold, nat_eq, not}
use Rattle.std.specs.List.{All, list_all, list_any}
use Rattle.std.proofs.lemmas.Bool.{and_from, and_parts, cases_eq, cases_lt, cases_order, eq-eqb, eqb-true, false≢true, false_from_ne_true, le-leb, leb-true, lt-ltb, ltb-true, ne_eqb, not-true, not_from_false, or_from, or_left, or_right}
use Rattle.std.proofs.lemmas.Bool.Decides.{nat_tests}
use Rattle.std.proofs.lemmas.List.{get_or-take, get_or_append_left, get_or_push, length-take-le, take-take, take_more, take-append-drop}
use Rattle.std.proofs.lemmas.List.Elements.{All-from_get_or}
use Rattle.std.proofs.lemmas.List.Recursion.{or_at, or_from_places}
use Rattle.std.proofs.lemmas.List.Sums.{AllPass-from_list_all, list_all-from_AllPass, fold_more, fold-append}
use Rattle.yw_base.specs.Spelling.{is_digit, is_word_byte}
use Rattle.yw_lex.specs.Spelling.{BeginsPair, IsName, IsNextDigit, IsNumber, IsSign, IsText, ends_text, is_before_equals, is_single_sign, most_number, number_of, quote}
use Rattle.yw_lex.specs.Tokens.{HasNoFront, IsLongest}

-- ---- signs
abbrev SignParts : List ℕ → ℕ → Type 0
SignParts bytes len = ((len ≡ 1) × (is_single_sign (get_or bytes 0 0) ≡ true)) ⊎ ((len ≡ 2) × (is_before_equals (get_or bytes 0 0) ≡ true) × (get_or bytes 1 0 ≡ 61))

sign_parts : (bytes : List ℕ) (len : ℕ) → len ≤ length bytes → IsSign (take len bytes) → SignParts bytes len
sign_parts bytes zero h is = absurd (false≢true is)
sign_parts [] (suc len) h is = absurd (omega arith)
sign_parts (a ∷ bytes) (suc zero) h is = inl (refl, is)
sign_parts (a ∷ []) (suc (suc len)) h is = absurd (omega arith)
sign_parts (a ∷ b ∷ bytes) (suc (suc zero)) h is = let p = and_parts (is_before_equals a) (nat_eq b 61) is in inr (refl, p.0, eqb-true b 61 p.1)
sign_parts (a ∷ b ∷ []) (suc (suc (suc len))) h is = absurd (omega arith)
sign_parts (a ∷ b ∷ c ∷ bytes) (suc (suc (suc len))) h is = absurd (false≢true is)

pub longest_pair : (bytes : List ℕ) → BeginsPair bytes → IsLongest IsSign bytes 2
longest_pair [] pair = absurd (omega (arith, pair.0))
longest_pair (a ∷ []) pair = absurd (omega (arith, pair.0))
longest_pair (a ∷ b ∷ bytes) pair = record {
  within = omega (arith, pair.0);
  here = and_from (is_before_equals a) (nat_eq b 61) pair.1 (eq-eqb b 61 pair.2);
  longest = λ len more within is.
      elim (sign_parts (a ∷ b ∷ bytes) len within is) [
        | inl p ↦ omega (arith, p.0)
        | inr p ↦ omega (arith, p.0)
      ];
}

pub longest_single : (bytes : List ℕ) → 0 < length bytes → is_single_sign (get_or bytes 0 0) ≡ true → (BeginsPair bytes → ⊥) → IsLongest IsSign bytes 1
longest_single [] h single no_pair = absurd (omega arith)
longest_single (a ∷ bytes) h single no_pair = record {
  within = omega arith;
  here = single;
  longest = λ len more within is.
      elim (sign_parts (a ∷ bytes) len within is) [
        | inl p ↦ omega (arith, p.0)
        | inr p ↦ no_pair (omega (arith, p.0), p.1, p.2)
      ];
}

pub no_sign : (bytes : List ℕ) → is_single_sign (get_or bytes 0 0) ≡ false → (BeginsPair bytes → ⊥) → HasNoFront IsSign bytes
no_sign bytes single no_pair len within is =
    elim (sign_parts bytes len within is) [
      | inl p ↦ false≢true (sym single ∙ p.1)
      | inr p ↦ no_pair (omega (arith, p.0), p.1, p.2)
    ]

-- ---- names
pub record NameParts (bytes : List ℕ) (len : ℕ) : Type 0 where
  pub some : 0 < len
  pub few : len ≤ 64
  pub no_digit : is_digit (get_or bytes 0 0) ≡ false
  pub words : (k : ℕ) → k < len → is_word_byte (get_or bytes k 0) ≡ true

front_at : (bytes : List ℕ) (len k : ℕ) → k < len → get_or (take len bytes) k 0 ≡ get_or bytes k 0
front_at bytes len k h = get_or-take len bytes k 0 h

pub name_parts : (bytes : List ℕ) (len : ℕ) → len ≤ length bytes → IsName (take len bytes) → NameParts bytes len
name_parts bytes len h is =
    let front = take len bytes in
    let count = length-take-le len bytes h in
    let all = and_parts (ltb 0 (length front) && leb (length front) 64 && not (is_digit (get_or front 0 0))) (list_all is_word_byte front) is in
    let rest = and_parts (ltb 0 (length front) && leb (length front) 64) (not (is_digit (get_or front 0 0))) all.0 in
    let ends = and_parts (ltb 0 (length front)) (leb (length front) 64) rest.0 in
    let some : 0 < len = omega (arith, count, ltb-true 0 (length front) ends.0) in
    record {
      some = some;
      few = omega (arith, count, leb-true (length front) 64 ends.1);
      no_digit = ap is_digit (sym (front_at bytes len 0 some)) ∙ not-true (is_digit (get_or front 0 0)) rest.1;
      words = λ k low. ap is_word_byte (sym (front_at bytes len k low)) ∙ AllPass-from_list_all is_word_byte front all.1 k 0 (omega (arith, count));
    }

name_from : (bytes : List ℕ) (len : ℕ) → len ≤ length bytes → NameParts bytes len → IsName (take len bytes)
name_from bytes len h p =
    let front = take len bytes in
    let count = length-take-le len bytes h in
    let some = p.some in
    let words : All (λ byte. is_word_byte byte ≡ true) front =
    All-from_get_or (λ byte. is_word_byte byte ≡ true) front 0 (λ k low. ap is_word_byte (front_at bytes len k (omega (arith, count))) ∙ p.words k (omega (arith, count))) in
    and_from (ltb 0 (length front) && leb (length front) 64 && not (is_digit (get_or front 0 0))) (list_all is_word_byte front)
    (and_from (ltb 0 (length front) && leb (length front) 64) (not (is_digit (get_or front 0 0))) (and_from (ltb 0 (length front)) (leb (length front) 64) (lt-ltb 0 (length front) (omega (arith, count, p.some))) (le-leb (length front) 64 (omega (arith, count, p.few))))
    (not_from_false (is_digit (get_or front 0 0)) (ap is_digit (front_at bytes len 0 p.some) ∙ p.no_digit)))
    (list_all-from_AllPass is_word_byte front words)

pub longest_name : (bytes : List ℕ) (len : ℕ) → 0 < len → len ≤ 64 → len ≤ length bytes → is_digit (get_or bytes 0 0) ≡ false → ((k : ℕ) → k < len → is_word_byte (get_or bytes k 0) ≡ true) → (len < length bytes → len < 64 → is_word_byte (get_or bytes len 0) ≡ false) → IsLongest IsName bytes len
longest_name bytes len some few within no_digit words stops = record {
  within = within;
  here = name_from bytes len within (record { some = some; few = few; no_digit = no_digit; words = words });
  longest = λ longer more h is.
      let p = name_parts bytes longer h is in
      false≢true (sym (stops (omega arith) (omega (arith, p.few))) ∙ p.words len more);
}

-- ---- numbers
pub record NumberParts (bytes : List ℕ) (len : ℕ) : Type 0 where
  pub some : 0 < len
  pub digits : (k : ℕ) → k < len → is_digit (get_or bytes k 0) ≡ true
  pub no_zero : get_or bytes 0 0 ≡ 48 → len ≡ 1
  pub fits : number_of (take len bytes) ≤ most_number

abbrev is_first_of_number : List ℕ → Bool
is_first_of_number front = not (eqb (get_or front 0 0) 48) || eqb (length front) 1

one_at_zero : (front : List ℕ) → get_or front 0 0 ≡ 48 → is_first_of_number front ≡ true → length front ≡ 1
one_at_zero front nought is = grind (arith, nat_tests)

first_from : (front : List ℕ) → (get_or front 0 0 ≡ 48 → length front ≡ 1) → is_first_of_number front ≡ true
first_from front one =
    elim (cases_eq (get_or front 0 0) 48) [
      | inl nought ↦ or_right (not (eqb (get_or front 0 0) 48)) (eqb (length front) 1) (eq-eqb (length front) 1 (one nought))
      | inr other ↦ or_left (not (eqb (get_or front 0 0) 48)) (eqb (length front) 1) (not_from_false (eqb (get_or front 0 0) 48) (ne_eqb (get_or front 0 0) 48 other))
    ]

pub number_parts : (bytes : List ℕ) (len : ℕ) → len ≤ length bytes → IsNumber (take len bytes) → NumberParts bytes len
number_parts bytes len h is =
    let front = take len bytes in
    let count = length-take-le len bytes h in
    let all = and_parts (ltb 0 (length front) && list_all is_digit front && is_first_of_number front) (leb (number_of front) most_number) is in
    let rest = and_parts (ltb 0 (length front) && list_all is_digit front) (is_first_of_number front) all.0 in
    let ends = and_parts (ltb 0 (length front)) (list_all is_digit front) rest.0 in
    let some : 0 < len = omega (arith, count, ltb-true 0 (length front) ends.0) in
    record {
      some = some;
      digits = λ k low. ap is_digit (sym (front_at bytes len k low)) ∙ AllPass-from_list_all is_digit front ends.1 k 0 (omega (arith, count));
      no_zero = λ nought. sym count ∙ one_at_zero front (front_at bytes len 0 some ∙ nought) rest.1;
      fits = leb-true (number_of front) most_number all.1;
    }

number_from : (bytes : List ℕ) (len : ℕ) → len ≤ length bytes → NumberParts bytes len → IsNumber (take len bytes)
number_from bytes len h p =
    let front = take len bytes in
    let count = length-take-le len bytes h in
    let digits : All (λ byte. is_digit byte ≡ true) front =
    All-from_get_or (λ byte. is_digit byte ≡ true) front 0 (λ k low. ap is_digit (front_at bytes len k (omega (arith, count))) ∙ p.digits k (omega (arith, count))) in
    and_from (ltb 0 (length front) && list_all is_digit front && is_first_of_number front) (leb (number_of front) most_number)
    (and_from (ltb 0 (length front) && list_all is_digit front) (is_first_of_number front) (and_from (ltb 0 (length front)) (list_all is_digit front) (lt-ltb 0 (length front) (omega (arith, count, p.some))) (list_all-from_AllPass is_digit front digits))
    (first_from front (λ nought. count ∙ p.no_zero (sym (front_at bytes len 0 p.some) ∙ nought))))
    (le-leb (number_of front) most_number p.fits)

-- a number only grows
number_after-ge : (number : ℕ) (digits : List ℕ) → number ≤ fold (λ n digit. n * 10 + (digit - 48)) number digits
number_after-ge number [] = omega arith
number_after-ge number (digit ∷ digits) = omega (arith, number_after-ge (number * 10 + (digit - 48)) digits)

number_of-take-le : (bytes : List ℕ) (i j : ℕ) → i ≤ j → number_of (take i bytes) ≤ number_of (take j bytes)
number_of-take-le bytes i j h =
    let front = take j bytes in
    let same : take i front ≡ take i bytes = take-take i j bytes h in
    let whole : number_of front ≡ fold (λ n digit. n * 10 + (digit - 48)) (number_of (take i front)) (drop i front) =
    ap number_of (sym (take-append-drop i front)) ∙ fold-append (λ n digit. n * 10 + (digit - 48)) 0 (take i front) (drop i front) in
    omega (arith, whole, ap number_of same, number_after-ge (number_of (take i front)) (drop i front))

number_of-more : (bytes : List ℕ) (len : ℕ) → len < length bytes → number_of (take (len + 1) bytes) ≡ number_of (take len bytes) * 10 + (get_or bytes len 0 - 48)
number_of-more bytes len h = fold_more (λ n digit. n * 10 + (digit - 48)) 0 bytes len 0 h

-- the front of this length is this number
pub record IsNumberSoFar (bytes : List ℕ) (len number : ℕ) : Type 0 where
  pub some : 0 < len
  pub within : len ≤ length bytes
  pub digits : (k : ℕ) → k < len → is_digit (get_or bytes k 0) ≡ true
  pub value : number ≡ number_of (take len bytes)
  pub fits : number ≤ most_number
  pub zero_alone : get_or bytes 0 0 ≡ 48 → (len ≡ 1) × (number ≡ 0)
  pub positive : get_or bytes 0 0 ≢ 48 → 0 < number

pub number_begins : (bytes : List ℕ) → 0 < length bytes → is_digit (get_or bytes 0 0) ≡ true → IsNumberSoFar bytes 1 (get_or bytes 0 0 - 48)
number_begins [] h digit = absurd (omega arith)
number_begins (byte ∷ bytes) h digit =
    let low : 48 ≤ byte = grind (arith, nat_tests) in
    let high : byte ≤ 57 = grind (arith, nat_tests) in
    record {
      some = omega arith;
      within = omega arith;
      digits = below_more (λ k. is_digit (get_or (byte ∷ bytes) k 0) ≡ true) 0 (λ k below. absurd (omega arith)) digit;
      value = omega arith;
      fits = omega arith;
      zero_alone = λ nought. (refl, omega (arith, nought));
      positive = λ other. omega (arith, other);
    }

pub number_goes_on : (bytes : List ℕ) (len number : ℕ) → IsNumberSoFar bytes len number → len < length bytes → IsNextDigit number (get_or bytes len 0) → IsNumberSoFar bytes (len + 1) (number * 10 + (get_or bytes len 0 - 48))
number_goes_on bytes len number so_far h next = record {
  some = omega arith;
  within = omega arith;
  digits = below_more (λ k. is_digit (get_or bytes k 0) ≡ true) len so_far.digits next.1;
  value = ap (λ n. n * 10 + (get_or bytes len 0 - 48)) so_far.value ∙ sym (number_of-more bytes len h);
  fits = next.2;
  zero_alone = λ nought. absurd (omega (arith, so_far.zero_alone nought, next.0));
  positive = λ other. omega (arith, next.0);
}

pub longest_number : (bytes : List ℕ) (len number : ℕ) → IsNumberSoFar bytes len number → (len < length bytes → IsNextDigit number (get_or bytes len 0) → ⊥) → IsLongest IsNumber bytes len
longest_number bytes len number so_far stops = record {
  within = so_far.within;
  here =
      number_from bytes len so_far.within (record {
        some = so_far.some;
        digits = so_far.digits;
        no_zero = λ nought. (so_far.zero_alone nought).0;
        fits = omega (arith, so_far.value, so_far.fits);
      });
  longest = λ longer more h is.
      let p = number_parts bytes longer h is in
      let inside : len < length bytes = omega arith in
      let other : get_or bytes 0 0 ≢ 48 = λ nought. omega (arith, so_far.some, p.no_zero nought) in
      let value : number * 10 + (get_or bytes len 0 - 48) ≤ most_number =
      omega (arith, so_far.value, p.fits, number_of-more bytes len inside, number_of-take-le bytes (len + 1) longer (omega arith)) in
      stops inside (so_far.positive other, p.digits len more, value);
}

-- ---- texts
pub record TextParts (bytes : List ℕ) (len : ℕ) : Type 0 where
  pub two : 2 ≤ len
  pub few : len ≤ 4098
  pub opened : get_or bytes 0 0 ≡ quote
  pub closed : get_or bytes (len - 1) 0 ≡ quote
  pub free : (k : ℕ) → 0 < k → k + 1 < len → ends_text (get_or bytes k 0) ≡ false

free_at : (bytes : List ℕ) (k : ℕ) → list_any ends_text bytes ≡ false → k < length bytes → ends_text (get_or bytes k 0) ≡ false
free_at bytes k free h =
    false_from_ne_true (ends_text (get_or bytes k 0)) (λ ends. false≢true (sym free ∙ or_at (list_any ends_text) ends_text refl (λ _ _. refl) bytes k 0 h ends))

text_inside : (bytes : List ℕ) (len : ℕ) (is : IsText (take len bytes)) → length is.inner + 2 ≡ len → (k : ℕ) → 0 < k → k + 1 < len → ends_text (get_or bytes k 0) ≡ false
text_inside bytes len is count zero low high = absurd (omega arith)
text_inside bytes len is count (suc k) low high =
    let inside : k < length is.inner = omega (arith, count) in
    ap ends_text (sym (front_at bytes len (suc k) (omega arith)) ∙ ap (λ t. get_or t (suc k) 0) is.quoted ∙ get_or_append_left is.inner (quote ∷ []) 0 k inside) ∙ free_at is.inner k is.free inside

pub text_parts : (bytes : List ℕ) (len : ℕ) → len ≤ length bytes → IsText (take len bytes) → TextParts bytes len
text_parts bytes len h is =
    let front = take len bytes in
    let count : length is.inner + 2 ≡ len =
    omega (arith, length-take-le len bytes h, ap length is.quoted, length-append is.inner (quote ∷ [])) in
    let last : len - 1 ≡ suc (length is.inner) = omega (arith, count) in
    record {
      two = omega (arith, count);
      few = omega (arith, count, is.short);
      opened = sym (front_at bytes len 0 (omega (arith, count))) ∙ ap (λ t. get_or t 0 0) is.quoted;
      closed =
          sym (front_at bytes len (len - 1) (omega (arith, count))) ∙ ap (λ n. get_or front n 0) last ∙ ap (λ t. get_or t (suc (length is.inner)) 0) is.quoted ∙ get_or_push is.inner quote 0 (length is.inner) refl;
      free = text_inside bytes len is count;
    }

text_from : (byte : ℕ) (rest : List ℕ) (len : ℕ) → len < length rest → len ≤ 4096 → byte ≡ quote → get_or rest len 0 ≡ quote → ((k : ℕ) → k < len → ends_text (get_or rest k 0) ≡ false) → IsText (byte ∷ take (len + 1) rest)
text_from byte rest len h few opens closes free = record {
  inner = take len rest;
  quoted = ap (λ b. b ∷ take (len + 1) rest) opens ∙ ap (λ t. quote ∷ t) (take_more rest len 0 h ∙ ap (λ b. take len rest ++ b ∷ []) closes);
  free =
      or_from_places (list_any ends_text) ends_text refl (λ _ _. refl) (take len rest) 0 (λ k low.
      let below : k < len = omega (arith, length-take-le len rest (omega arith)) in
      ap ends_text (front_at rest len k below) ∙ free k below);
  short = omega (arith, length-take-le len rest (omega arith));
}

-- up to this place stands a quote and no other that ends a text
pub record IsTextSoFar (bytes : List ℕ) (len : ℕ) : Type 0 where
  pub some : 0 < len
  pub within : len ≤ length bytes
  pub few : len ≤ 4098
  pub opens : get_or bytes 0 0 ≡ quote
  pub free : (k : ℕ) → 0 < k → k < len → ends_text (get_or bytes k 0) ≡ false

pub text_begins : (bytes : List ℕ) → 0 < length bytes → get_or bytes 0 0 ≡ quote → IsTextSoFar bytes 1
text_begins bytes h opens = record { some = omega arith; within = omega arith; few = omega arith; opens = opens; free = λ k low high. absurd (omega arith) }

goes_on_text : (byte : ℕ) → byte ≢ quote → byte ≢ 10 → ends_text byte ≡ false
goes_on_text byte no_quote no_newline = or_from (eqb byte quote) (eqb byte 10) (ne_eqb byte quote no_quote) (ne_eqb byte 10 no_newline)

pub text_goes_on : (bytes : List ℕ) (len : ℕ) → IsTextSoFar bytes len → len < length bytes → len ≤ 4097 → get_or bytes len 0 ≢ quote → get_or bytes len 0 ≢ 10 → IsTextSoFar bytes (len + 1)
text_goes_on bytes len so_far h few no_quote no_newline =
    let free = below_more (λ k. 0 < k → ends_text (get_or bytes k 0) ≡ false) len (λ k high low. so_far.free k low high) (λ low. goes_on_text (get_or bytes len 0) no_quote no_newline) in
    record {
      some = omega arith;
      within = omega arith;
      few = omega arith;
      opens = so_far.opens;
      free = λ k low high. free k high low;
    }

pub longest_text : (bytes : List ℕ) (len : ℕ) → IsTextSoFar bytes len → len < length bytes → len ≤ 4097 → get_or bytes len 0 ≡ quote → IsLongest IsText bytes (len + 1)
longest_text [] len so_far h few closes = absurd (omega arith)
longest_text (byte ∷ rest) zero so_far h few closes = absurd (omega (arith, so_far.some))
longest_text (byte ∷ rest) (suc len) so_far h few closes =
    let whole : suc (len + 1) ≡ suc len + 1 = omega arith in
    record {
      within = omega arith;
      here =
          subst (λ n. IsText (take n (byte ∷ rest))) whole (text_from byte rest len (omega arith) (omega arith) so_far.opens closes (λ k low. so_far.free (suc k) (omega arith) (omega arith)));
      longest = λ longer more within is.
          let p = text_parts (byte ∷ rest) longer within is in
          false≢true (sym (p.free (suc len) (omega arith) (omega arith)) ∙ ap ends_text closes);
    }

ends_before : (bytes : List ℕ) (len front : ℕ) → IsTextSoFar bytes len → TextParts bytes front → front - 1 < len → ⊥
ends_before bytes len front so_far p h = false≢true (sym (so_far.free (front - 1) (omega (arith, p.two)) h) ∙ ap ends_text p.closed)

pub no_text_at_newline : (bytes : List ℕ) (len : ℕ) → IsTextSoFar bytes len → len < length bytes → get_or bytes len 0 ≡ 10 → HasNoFront IsText bytes
no_text_at_newline bytes len so_far h newline front within is =
    let p = text_parts bytes front within is in
    elim (cases_order (front - 1) len) [
      | inl same ↦ let two : 10 ≡ quote = sym newline ∙ ap (λ n. get_or bytes n 0) (sym same) ∙ p.closed in omega arith
      | inr (inl less) ↦ ends_before bytes len front so_far p less
      | inr (inr more) ↦ false≢true (sym (p.free len so_far.some (omega arith)) ∙ ap ends_text newline)
    ]

pub no_text_at_end : (bytes : List ℕ) (len : ℕ) → IsTextSoFar bytes len → (len < length bytes → 4097 < len) → HasNoFront IsText bytes
no_text_at_end bytes len so_far h front within is =
    let p = text_parts bytes front within is in
    elim (cases_lt len (length bytes)) [
      | inl more ↦ ends_before bytes len front so_far p (omega (arith, h more, p.few, p.two))
      | inr all ↦ ends_before bytes len front so_far p (omega (arith, p.two))
    ]
