-- The texts of identities, and what reads them.
use Rattle.std.proofs.Common.{◌≡◌, ◌≢◌, ℕ, ◌+◌, ◌-◌, ◌*◌, ◌/◌, ◌%◌, ◌<◌, ◌≤◌, ◌&&◌, Bool, true, false, cond, List, [], ◌∷◌, ◌++◌, length, get_or, take, drop, Option, Some, None, ◌⊎◌, inl, inr, refl, sym, ap, ◌∙◌, subst, append_assoc, arith, length-append, lit<}
use Rattle.std.specs.Prelude.{nat_eq, nat_lt, nat_le, if◌then◌else◌}
use Rattle.std.specs.Fmt.{decimal}
use Rattle.std.specs.List.{list_all, starts_with, flat_map}
use Rattle.std.proofs.lemmas.Bool.Decides.{nat_tests}
use Rattle.std.proofs.lemmas.Fmt.{decimal_by_steps, decimal_digit, decimal_step}
use Rattle.std.proofs.lemmas.Bool.{cases_lt, and_from, and_parts, eqb-true, false_from_ne_true, ltb-true}
use Rattle.std.proofs.lemmas.List.{append-nil, at_drop_all, at_drop_more, flat_map_more, length_push, length-take-le, take_more}
use Rattle.std.proofs.lemmas.List.Recursion.{and_push}
use Rattle.std.proofs.lemmas.Option.{none-some, same_Some}
use Rattle.yw_base.specs.Identity.{dotted, is_identity, is_number, number_end, under, SpellsIdentity}

-- ---- prefixes
pub starts_with-under : (identity top : List ℕ) → starts_with nat_eq identity top ≡ under identity top
starts_with-under identity [] = refl
starts_with-under [] (x ∷ top) = refl
starts_with-under (y ∷ identity) (x ∷ top) = ap (λ b. nat_eq x y && b) (starts_with-under identity top)

-- ---- printing
pub dotted-push : (numbers : List ℕ) (number : ℕ) → 0 < length numbers → dotted (numbers ++ number ∷ []) ≡ dotted numbers ++ 46 ∷ decimal number
dotted-push [] number h = absurd (omega arith)
dotted-push (n ∷ []) number h = refl
dotted-push (n ∷ m ∷ ns) number h =
    let more = dotted-push (m ∷ ns) number (omega arith) in
    ap (λ t. decimal n ++ 46 ∷ t) more ∙ sym (append_assoc (decimal n) (46 ∷ dotted (m ∷ ns)) (46 ∷ decimal number))

-- ---- reading
-- a digit that makes a number longer
abbrev pub is_next : ℕ → ℕ → Bool
is_next number digit = nat_le 48 digit && nat_le digit 57 && is_number (number * 10 + (digit - 48))

abbrev IsNext : ℕ → ℕ → Type 0
IsNext number digit = (48 ≤ digit) × (digit ≤ 57) × (is_number (number * 10 + (digit - 48)) ≡ true)

pub is_next-from : (number digit : ℕ) → IsNext number digit → is_next number digit ≡ true
is_next-from number digit h = grind (arith, nat_tests, h.2)

pub no_next-from : (number digit : ℕ) → (IsNext number digit → ⊥) → is_next number digit ≡ false
no_next-from number digit h = false_from_ne_true (is_next number digit) (λ is. h (grind (arith, nat_tests), grind (arith, nat_tests), grind (arith, nat_tests)))

-- the numbers of a text, after some numbers and the digits of one more, where 0 stands for none
unfoldable pub read_from : List ℕ → ℕ → List ℕ → Option (List ℕ)
read_from numbers number [] = if nat_lt 0 number then Some (numbers ++ number ∷ []) else None
read_from numbers number (byte ∷ text) =
    if nat_eq byte 46 then (if nat_lt 0 number && nat_lt (length numbers + 1) 40 then read_from (numbers ++ number ∷ []) 0 text else None) else (if is_next number byte then read_from numbers (number * 10 + (byte - 48)) text else None)

pub read-end : (numbers : List ℕ) (number : ℕ) → 0 < number → read_from numbers number [] ≡ Some (numbers ++ number ∷ [])
unfolding read_from
read-end numbers number h = grind (arith, nat_tests)

pub read-end_none : (numbers : List ℕ) → read_from numbers 0 [] ≡ None
unfolding read_from
read-end_none numbers = refl

pub read-dot : (numbers : List ℕ) (number : ℕ) (text : List ℕ) → 0 < number → length numbers + 1 < 40 → read_from numbers number (46 ∷ text) ≡ read_from (numbers ++ number ∷ []) 0 text
unfolding read_from
read-dot numbers number text h few = grind (arith, nat_tests)

pub read-no_number : (numbers : List ℕ) (text : List ℕ) → read_from numbers 0 (46 ∷ text) ≡ None
unfolding read_from
read-no_number numbers text = refl

pub read-many : (numbers : List ℕ) (number : ℕ) (text : List ℕ) → 40 ≤ length numbers + 1 → read_from numbers number (46 ∷ text) ≡ None
unfolding read_from
read-many numbers number text h = grind (arith, nat_tests)

pub read-digit : (numbers : List ℕ) (number byte : ℕ) (text : List ℕ) → byte ≢ 46 → is_next number byte ≡ true → read_from numbers number (byte ∷ text) ≡ read_from numbers (number * 10 + (byte - 48)) text
unfolding read_from
read-digit numbers number byte text h is = grind (arith, nat_tests)

pub read-no_digit : (numbers : List ℕ) (number byte : ℕ) (text : List ℕ) → byte ≢ 46 → is_next number byte ≡ false → read_from numbers number (byte ∷ text) ≡ None
unfolding read_from
read-no_digit numbers number byte text h is = grind (arith, nat_tests)

-- the digits of a number are read as that number
module _ (numbers : List ℕ) where
  abbrev Reads : ℕ → List ℕ → Type 0
  Reads number digits = 0 < number → number < number_end → (text : List ℕ) → read_from numbers 0 (digits ++ text) ≡ read_from numbers number text

  reads_one : (number : ℕ) → number < 10 → Reads number ((48 + number) ∷ [])
  reads_one number small h low text =
      let same : 0 * 10 + ((48 + number) - 48) ≡ number = omega arith in
      let other : (48 + number) ≢ 46 = omega arith in
      read-digit numbers 0 (48 + number) text other (grind (arith, nat_tests)) ∙ ap (λ n. read_from numbers n text) same

  reads_more : (number : ℕ) (digits : List ℕ) → 10 ≤ number → Reads (number / 10) digits → Reads number (digits ++ ((48 + number % 10) ∷ []))
  reads_more number digits large front h low text =
      let last = 48 + number % 10 in
      let same : (number / 10) * 10 + ((48 + number % 10) - 48) ≡ number = omega arith in
      let other : (48 + number % 10) ≢ 46 = omega arith in
      let digit : is_next (number / 10) (48 + number % 10) ≡ true = grind (arith, nat_tests) in
      ap (read_from numbers 0) (append_assoc digits (last ∷ []) text) ∙ front (omega arith) (omega arith) (last ∷ text) ∙ read-digit numbers (number / 10) (48 + number % 10) text other digit ∙ ap (λ n. read_from numbers n text) same

  pub read-decimal : (number : ℕ) (text : List ℕ) → is_number number ≡ true → read_from numbers 0 (decimal number ++ text) ≡ read_from numbers number text
  read-decimal number text is =
      let h : 0 < number = grind (arith, nat_tests) in
      let low : number < number_end = grind (arith, nat_tests) in
      decimal_by_steps Reads reads_one reads_more number (omega arith) h low text

-- what is printed is read
pub read-dotted : (numbers rest : List ℕ) → 0 < length rest → length numbers + length rest ≤ 40 → list_all is_number rest ≡ true → read_from numbers 0 (dotted rest) ≡ Some (numbers ++ rest)
read-dotted numbers [] h few all = absurd (omega arith)
read-dotted numbers (n ∷ []) h few all =
    let is : is_number n ≡ true = grind (arith, nat_tests) in
    let low : 0 < n = grind (arith, nat_tests) in
    ap (read_from numbers 0) (sym (append-nil (decimal n))) ∙ read-decimal numbers n [] is ∙ read-end numbers n low
read-dotted numbers (n ∷ m ∷ ns) h few all =
    let is : is_number n ≡ true = grind (arith, nat_tests) in
    let low : 0 < n = grind (arith, nat_tests) in
    let rest : list_all is_number (m ∷ ns) ≡ true = grind (arith, nat_tests) in
    let more = read-dotted (numbers ++ n ∷ []) (m ∷ ns) (omega arith) (omega (arith, length-append numbers (n ∷ []))) rest in
    read-decimal numbers n (46 ∷ dotted (m ∷ ns)) is ∙ read-dot numbers n (dotted (m ∷ ns)) low (omega arith) ∙ more ∙ ap (λ l. Some l) (append_assoc numbers (n ∷ []) (m ∷ ns))

pub read-identity : (numbers : List ℕ) → is_identity numbers ≡ true → read_from [] 0 (dotted numbers) ≡ Some numbers
read-identity numbers is =
    let h : 0 < length numbers = grind (arith, nat_tests) in
    let few : length numbers ≤ 40 = grind (arith, nat_tests) in
    let all : list_all is_number numbers ≡ true = grind (arith, nat_tests) in
    read-dotted [] numbers h (omega arith) all

pub dotted-same : (first second : List ℕ) → is_identity first ≡ true → is_identity second ≡ true → dotted first ≡ dotted second → first ≡ second
dotted-same first second a b e =
    let one = read-identity first a in
    let two = read-identity second b in
    let same = ap (read_from [] 0) e in
    cc

pub reads_nothing : (text : List ℕ) → read_from [] 0 text ≡ None → SpellsIdentity text → ⊥
reads_nothing text none spells =
    let one = read-identity spells.0 spells.1 in
    let same = ap (read_from [] 0) spells.2 in
    cc

-- ---- what is read is printed so
-- the numbers that a dot ended, and the digits of one more
abbrev ended : List ℕ → List ℕ
ended numbers = flat_map (λ n. decimal n ++ 46 ∷ []) numbers

abbrev open_digits : ℕ → List ℕ
open_digits number = if nat_lt 0 number then decimal number else []

dotted-cons : (first : ℕ) (numbers : List ℕ) (number : ℕ) → dotted (first ∷ (numbers ++ number ∷ [])) ≡ (decimal first ++ 46 ∷ []) ++ dotted (numbers ++ number ∷ [])
dotted-cons first [] number = sym (append_assoc (decimal first) (46 ∷ []) (decimal number))
dotted-cons first (n ∷ ns) number = sym (append_assoc (decimal first) (46 ∷ []) (dotted (n ∷ (ns ++ number ∷ []))))

dotted-last : (numbers : List ℕ) (number : ℕ) → dotted (numbers ++ number ∷ []) ≡ ended numbers ++ decimal number
dotted-last [] number = refl
dotted-last (n ∷ ns) number =
    dotted-cons n ns number ∙ ap (λ t. (decimal n ++ 46 ∷ []) ++ t) (dotted-last ns number) ∙ sym (append_assoc (decimal n ++ 46 ∷ []) (ended ns) (decimal number))

ended-push : (numbers : List ℕ) (number : ℕ) → ended (numbers ++ number ∷ []) ≡ ended numbers ++ (decimal number ++ 46 ∷ [])
ended-push numbers number = sym (flat_map_more (λ n. decimal n ++ 46 ∷ []) [] numbers number)

open_digits-some : (number : ℕ) → 0 < number → open_digits number ≡ decimal number
open_digits-some number h = grind (arith, nat_tests)

open_digits-digit : (number digit : ℕ) → is_next number digit ≡ true → open_digits (number * 10 + (digit - 48)) ≡ open_digits number ++ digit ∷ []
open_digits-digit number digit is =
    let low : 48 ≤ digit = grind (arith, nat_tests) in
    let high : digit ≤ 57 = grind (arith, nat_tests) in
    let some : 0 < number * 10 + (digit - 48) = grind (arith, nat_tests) in
    let small : number * 10 + (digit - 48) < number_end = grind (arith, nat_tests) in
    open_digits-some (number * 10 + (digit - 48)) some ∙ by_cases low high some small (cases_lt 0 number)
  where
    by_cases : 48 ≤ digit → digit ≤ 57 → 0 < number * 10 + (digit - 48) → number * 10 + (digit - 48) < number_end → (0 < number) ⊎ (number ≤ 0) → decimal (number * 10 + (digit - 48)) ≡ open_digits number ++ digit ∷ []
    by_cases low high some small (inl more) =
        let front : (number * 10 + (digit - 48)) / 10 ≡ number = omega arith in
        let last : 48 + (number * 10 + (digit - 48)) % 10 ≡ digit = omega arith in
        let step = decimal_step (number * 10 + (digit - 48)) (omega arith) (omega arith) in
        let begun = open_digits-some number more in
        cc
    by_cases low high some small (inr none) =
        let zero : number ≡ 0 = omega arith in
        let last : 48 + (number * 10 + (digit - 48)) ≡ digit = omega arith in
        let step = decimal_digit (number * 10 + (digit - 48)) (omega arith) in
        let begun = ap open_digits zero in
        let empty = ap (λ t. t ++ digit ∷ []) begun in
        cc

pub record IsRead (numbers : List ℕ) (number : ℕ) (text all : List ℕ) : Type 0 where
  pub identity : is_identity all ≡ true
  pub printed : (ended numbers ++ open_digits number) ++ text ≡ dotted all

-- which way a test went that leads to a value
chosen : (test : Bool) (first second : Option (List ℕ)) (found : List ℕ) → cond test first second ≡ Some found → ((test ≡ true) × (first ≡ Some found)) ⊎ ((test ≡ false) × (second ≡ Some found))
chosen true first second found e = inl (refl, e)
chosen false first second found e = inr (refl, e)

passed : (test : Bool) (first : Option (List ℕ)) (found : List ℕ) → cond test first None ≡ Some found → (test ≡ true) × (first ≡ Some found)
passed true first found e = (refl, e)
passed false first found e = absurd (none-some found e)

abbrev DotFirst : List ℕ → ℕ → ℕ → List ℕ → List ℕ → Type 0
DotFirst numbers number byte text all = (byte ≡ 46) × (0 < number) × (length numbers + 1 < 40) × (read_from (numbers ++ number ∷ []) 0 text ≡ Some all)

abbrev DigitFirst : List ℕ → ℕ → ℕ → List ℕ → List ℕ → Type 0
DigitFirst numbers number byte text all = (is_next number byte ≡ true) × (read_from numbers (number * 10 + (byte - 48)) text ≡ Some all)

-- what the first byte of a text that is read is
read-parts : (numbers : List ℕ) (number byte : ℕ) (text all : List ℕ) → read_from numbers number (byte ∷ text) ≡ Some all → DotFirst numbers number byte text all ⊎ DigitFirst numbers number byte text all
unfolding read_from
read-parts numbers number byte text all e =
    elim (chosen (nat_eq byte 46) _ _ all e) [
      | inl h ↦
          let p = passed (nat_lt 0 number && nat_lt (length numbers + 1) 40) _ all h.1 in
          let both = and_parts (nat_lt 0 number) (nat_lt (length numbers + 1) 40) p.0 in
          inl (eqb-true byte 46 h.0, ltb-true 0 number both.0, ltb-true (length numbers + 1) 40 both.1, p.1)
      | inr h ↦ inr (passed (is_next number byte) _ all h.1)
    ]

read-end_parts : (numbers : List ℕ) (number : ℕ) (all : List ℕ) → read_from numbers number [] ≡ Some all → (0 < number) × (numbers ++ number ∷ [] ≡ all)
unfolding read_from
read-end_parts numbers number all e =
    let p = passed (nat_lt 0 number) _ all e in
    (ltb-true 0 number p.0, same_Some (numbers ++ number ∷ []) all p.1)

each-push : (numbers : List ℕ) (number : ℕ) → list_all is_number numbers ≡ true → is_number number ≡ true → list_all is_number (numbers ++ number ∷ []) ≡ true
each-push numbers number each is =
    and_push (list_all is_number) is_number refl (λ _ _. refl) numbers number ∙ and_from (list_all is_number numbers) (is_number number) each is

is_number-from : (number : ℕ) → 0 < number → number < number_end → is_number number ≡ true
is_number-from number low high = grind (arith, nat_tests)

pub small-from : (number : ℕ) → is_number number ≡ true → number < number_end
small-from number is = grind (arith, nat_tests)

identity-push : (numbers : List ℕ) (number : ℕ) → length numbers < 40 → list_all is_number numbers ≡ true → is_number number ≡ true → is_identity (numbers ++ number ∷ []) ≡ true
identity-push numbers number few each is =
    let all = each-push numbers number each is in
    let count = length_push numbers number in
    grind (arith, nat_tests)

printed_dot : (numbers : List ℕ) (number : ℕ) (text all : List ℕ) → 0 < number → IsRead (numbers ++ number ∷ []) 0 text all → IsRead numbers number (46 ∷ text) all
printed_dot numbers number text all some rest =
    let moved : (ended numbers ++ decimal number) ++ 46 ∷ text ≡ ((ended numbers ++ (decimal number ++ 46 ∷ [])) ++ []) ++ text = simp (append_assoc, append-nil) in
    record {
      identity = rest.identity;
      printed =
          ap (λ t. (ended numbers ++ t) ++ 46 ∷ text) (open_digits-some number some) ∙ moved ∙ ap (λ t. (t ++ []) ++ text) (sym (ended-push numbers number)) ∙ rest.printed;
    }

printed_digit : (numbers : List ℕ) (number byte : ℕ) (text all : List ℕ) → is_next number byte ≡ true → IsRead numbers (number * 10 + (byte - 48)) text all → IsRead numbers number (byte ∷ text) all
printed_digit numbers number byte text all is rest =
    let moved : (ended numbers ++ open_digits number) ++ byte ∷ text ≡ (ended numbers ++ (open_digits number ++ byte ∷ [])) ++ text = simp append_assoc in
    record {
      identity = rest.identity;
      printed = moved ∙ ap (λ t. (ended numbers ++ t) ++ text) (sym (open_digits-digit number byte is)) ∙ rest.printed;
    }

pub reads : (numbers : List ℕ) (number : ℕ) (text all : List ℕ) → length numbers < 40 → list_all is_number numbers ≡ true → number < number_end → read_from numbers number text ≡ Some all → IsRead numbers number text all
reads numbers number [] all few each small e =
    let h = read-end_parts numbers number all e in
    let is = is_number-from number h.0 small in
    record {
      identity = subst (λ l. is_identity l ≡ true) h.1 (identity-push numbers number few each is);
      printed =
          append-nil (ended numbers ++ open_digits number) ∙ ap (λ t. ended numbers ++ t) (open_digits-some number h.0) ∙ sym (dotted-last numbers number) ∙ ap dotted h.1;
    }
reads numbers number (byte ∷ text) all few each small e =
    elim (read-parts numbers number byte text all e) [
      | inl h ↦
          let is = is_number-from number h.1 small in
          let rest = reads (numbers ++ number ∷ []) 0 text all (omega (arith, length_push numbers number, h.2)) (each-push numbers number each is) (omega arith) h.3 in
          subst (λ b. IsRead numbers number (b ∷ text) all) (sym h.0) (printed_dot numbers number text all h.1 rest)
      | inr h ↦
          let small' : number * 10 + (byte - 48) < number_end = grind (arith, nat_tests, h.0) in
          printed_digit numbers number byte text all h.0 (reads numbers (number * 10 + (byte - 48)) text all few each small' h.1)
    ]

pub reads_identity : (text all : List ℕ) → read_from [] 0 text ≡ Some all → (is_identity all ≡ true) × (text ≡ dotted all)
reads_identity text all e =
    let h = reads [] 0 text all (lit< tt) refl (lit< tt) e in
    (h.identity, h.printed)

-- ---- the loop that prints
pub dotted-take_first : (numbers : List ℕ) (i : ℕ) → i ≡ 0 → i < length numbers → dotted (take (i + 1) numbers) ≡ dotted (take i numbers) ++ decimal (get_or numbers i 0)
dotted-take_first [] i first h = absurd (omega arith)
dotted-take_first (n ∷ ns) i first h = rw first refl

pub dotted-take_more : (numbers : List ℕ) (i : ℕ) → 0 < i → i < length numbers → dotted (take (i + 1) numbers) ≡ (dotted (take i numbers) ++ 46 ∷ []) ++ decimal (get_or numbers i 0)
dotted-take_more numbers i some h =
    let front : 0 < length (take i numbers) = omega (arith, length-take-le i numbers (omega arith)) in
    ap dotted (take_more numbers i 0 h) ∙ dotted-push (take i numbers) (get_or numbers i 0) front ∙ sym (append_assoc (dotted (take i numbers)) (46 ∷ []) (decimal (get_or numbers i 0)))

-- ---- the loop that reads: at a place k, the rest is read as the whole
module _ (text numbers : List ℕ) (number k : ℕ) (same : read_from numbers number (drop k text) ≡ read_from [] 0 text) where
  next_byte : (byte : ℕ) → k < length text → get_or text k 0 ≡ byte → read_from numbers number (byte ∷ drop (k + 1) text) ≡ read_from [] 0 text
  next_byte byte h is = ap (λ b. read_from numbers number (b ∷ drop (k + 1) text)) (sym is) ∙ sym (at_drop_more (read_from numbers number) text k 0 h) ∙ same

  pub stops_without_number : k < length text → get_or text k 0 ≡ 46 → number ≡ 0 → SpellsIdentity text → ⊥
  stops_without_number h is zero =
      reads_nothing text (sym (next_byte 46 h is) ∙ ap (λ n. read_from numbers n (46 ∷ drop (k + 1) text)) zero ∙ read-no_number numbers (drop (k + 1) text))

  pub stops_at_most : k < length text → get_or text k 0 ≡ 46 → 40 ≤ length numbers + 1 → SpellsIdentity text → ⊥
  stops_at_most h is most = reads_nothing text (sym (next_byte 46 h is) ∙ read-many numbers number (drop (k + 1) text) most)

  pub stops_without_digit : k < length text → get_or text k 0 ≢ 46 → is_next number (get_or text k 0) ≡ false → SpellsIdentity text → ⊥
  stops_without_digit h other none = reads_nothing text (sym (next_byte (get_or text k 0) h refl) ∙ read-no_digit numbers number (get_or text k 0) (drop (k + 1) text) other none)

  pub past_a_dot : k < length text → get_or text k 0 ≡ 46 → 0 < number → length numbers + 1 < 40 → read_from (numbers ++ number ∷ []) 0 (drop (k + 1) text) ≡ read_from [] 0 text
  past_a_dot h is some few = sym (read-dot numbers number (drop (k + 1) text) some few) ∙ next_byte 46 h is

  pub past_a_digit : k < length text → get_or text k 0 ≢ 46 → is_next number (get_or text k 0) ≡ true → read_from numbers (number * 10 + (get_or text k 0 - 48)) (drop (k + 1) text) ≡ read_from [] 0 text
  past_a_digit h other is = sym (read-digit numbers number (get_or text k 0) (drop (k + 1) text) other is) ∙ next_byte (get_or text k 0) h refl

  at_end : length text ≤ k → read_from numbers number [] ≡ read_from [] 0 text
  at_end h = sym (at_drop_all (read_from numbers number) text k h) ∙ same

  pub ends_without_number : length text ≤ k → number ≡ 0 → SpellsIdentity text → ⊥
  ends_without_number h zero = reads_nothing text (sym (at_end h) ∙ ap (λ n. read_from numbers n []) zero ∙ read-end_none numbers)

  pub ends_with_number : length text ≤ k → 0 < number → (is_identity (numbers ++ number ∷ []) ≡ true) × (text ≡ dotted (numbers ++ number ∷ []))
  ends_with_number h some = reads_identity text (numbers ++ number ∷ []) (sym (at_end h) ∙ read-end numbers number some)
