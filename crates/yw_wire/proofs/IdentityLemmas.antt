-- The definition of an identity's text says what `dotted` says.
use Rattle.std.proofs.Common.{◌≡◌, ℕ, ◌<◌, ◌^◌, ◌&&◌, Bool, true, false, cond, not, List, [], ◌∷◌, ◌++◌, length, get_or, map, Option, Some, None, refl, sym, ap, ◌∙◌, subst, arith}
use Rattle.std.specs.Prelude.{nat_eq, nat_lt, nat_le, option_and_then, option_map}
use Rattle.std.specs.Fmt.{decimal}
use Rattle.std.specs.List.{list_all}
use Rattle.std.specs.Str.Parse.{digits_value}
use Rattle.std.proofs.lemmas.Bool.{and_parts, and_from, eqb-true, eq-eqb, ne_eqb, lt-ltb, ltb-true, leb-true, le-leb, not_from_false}
use Rattle.std.proofs.lemmas.Fmt.{decimal_is_IsNumeral, decimal-digits_value, digits_decimal, digits_value-decimal, first_decimal}
use Rattle.std.proofs.lemmas.Option.{cond_some, same_Some}
use Rattle.std.proofs.lemmas.Str.Parse.{IsDigitsTest, IsNumeralModel, numerals_by_value}
use Rattle.yw_base.specs.Identity.{dotted, is_identity, is_number, SpellsIdentity}
use Rattle.yw_base.specs.Spelling.{is_digit}
use Rattle.yw_lines.specs.Identities.{identity_in, if_identity, is_numeral, number_in, numbers_in, parts_of}
use Rattle.yw_lines.specs.Lines.{with_byte}

-- ---- digits

abbrev AreDigits : List ℕ → Type 0
AreDigits ds = list_all is_digit ds ≡ true

tells : IsDigitsTest AreDigits
tells = record {
  empty = refl;
  parts = λ c cs e. let k = and_parts (is_digit c) (list_all is_digit cs) e in let m = and_parts (nat_le 48 c) (nat_le c 57) k.0 in ((leb-true 48 c m.0, leb-true c 57 m.1), k.1);
  more = λ c cs k e. and_from (is_digit c) (list_all is_digit cs) (and_from (nat_le 48 c) (nat_le c 57) (le-leb 48 c k.0) (le-leb c 57 k.1)) e;
}

own : IsNumeralModel AreDigits (digits_value 10)
own = numerals_by_value AreDigits tells

-- a number of an identity is from 1 to 2^48 - 1
is_number-parts : (number : ℕ) → is_number number ≡ true → (0 < number) × (number < 2 ^ 64)
is_number-parts number is =
    let h = and_parts (nat_lt 0 number) _ is in
    let small = ltb-true number _ h.1 in
    (ltb-true 0 number h.0, omega arith)

-- ---- a number and its text

numeral-decimal : (number : ℕ) → is_number number ≡ true → is_numeral (decimal number) ≡ true
numeral-decimal number is =
    let h = is_number-parts number is in
    let first = first_decimal number h.0 h.1 in
    and_from _ _ (and_from _ _ (lt-ltb 0 _ (decimal_is_IsNumeral number h.1).0.0) (digits_decimal own number h.1)) (not_from_false _ (ne_eqb _ 48 (λ e. omega arith)))

number_in-decimal : (number : ℕ) → is_number number ≡ true → number_in (decimal number) ≡ Some number
number_in-decimal number is =
    let value : digits_value 10 (decimal number) ≡ number = digits_value-decimal own number (is_number-parts number is).1 in
    rw (numeral-decimal number is, value, is) refl

decimal-number_in : (part : List ℕ) (number : ℕ) → number_in part ≡ Some number → (is_number number ≡ true) × (decimal number ≡ part)
decimal-number_in part number e =
    let h = cond_some (is_numeral part && is_number (digits_value 10 part)) _ number e in
    let k = and_parts (is_numeral part) _ h.0 in
    let n = and_parts (nat_lt 0 (length part) && list_all is_digit part) _ k.0 in
    let m = and_parts (nat_lt 0 (length part)) _ n.0 in
    let first : get_or part 0 0 ≡ 48 → length part ≡ 1 = λ zero. absurd (not_zero part n.1 zero) in
    let same = decimal-digits_value own part m.1 (ltb-true 0 _ m.0) first (is_number-parts _ k.1).1 in
    (subst (λ v. is_number v ≡ true) h.1 k.1, ap decimal (sym h.1) ∙ same)
  where
    not_zero : (part : List ℕ) → not (nat_eq (get_or part 0 0) 48) ≡ true → get_or part 0 0 ≡ 48 → ⊥
    not_zero part other zero = cc (other, eq-eqb _ 48 zero)

all_numbers-parts : (number : ℕ) (numbers : List ℕ) → list_all is_number (number ∷ numbers) ≡ true → (is_number number ≡ true) × (list_all is_number numbers ≡ true)
all_numbers-parts number numbers all = and_parts (is_number number) (list_all is_number numbers) all

numbers_in-decimals : (numbers : List ℕ) → list_all is_number numbers ≡ true → numbers_in (map decimal numbers) ≡ Some numbers
numbers_in-decimals [] all = refl
numbers_in-decimals (n ∷ ns) all =
    let h = all_numbers-parts n ns all in
    rw (number_in-decimal n h.0, numbers_in-decimals ns h.1) refl

decimals-numbers_in : (parts : List (List ℕ)) (numbers : List ℕ) → numbers_in parts ≡ Some numbers → (list_all is_number numbers ≡ true) × (map decimal numbers ≡ parts)
decimals-numbers_in [] [] e = (refl, refl)
decimals-numbers_in [] (n ∷ ns) e = cc
decimals-numbers_in (part ∷ parts) numbers e = behind (number_in part) (numbers_in parts) refl (decimals-numbers_in parts) e
  where
    behind : (first : Option ℕ) (rest : Option (List ℕ)) → number_in part ≡ first → ((ns : List ℕ) → rest ≡ Some ns → (list_all is_number ns ≡ true) × (map decimal ns ≡ parts))
        → option_and_then (λ n. option_map (λ ns. n ∷ ns) rest) first ≡ Some numbers → (list_all is_number numbers ≡ true) × (map decimal numbers ≡ part ∷ parts)
    behind None rest is each e = cc
    behind (Some n) None is each e = cc
    behind (Some n) (Some ns) is each e =
        let one = decimal-number_in part n is in
        let more = each ns refl in
        let same : n ∷ ns ≡ numbers = same_Some (n ∷ ns) numbers e in
        subst (λ l. (list_all is_number l ≡ true) × (map decimal l ≡ part ∷ parts)) same (and_from (is_number n) (list_all is_number ns) one.0 more.0, cc (one.1, more.1))

-- ---- parts with a dot between each two

abbrev joined : List (List ℕ) → List ℕ
joined [] = []
joined (part ∷ []) = part
joined (part ∷ next ∷ parts) = part ++ 46 ∷ joined (next ∷ parts)

dotted-joined : (numbers : List ℕ) → dotted numbers ≡ joined (map decimal numbers)
dotted-joined [] = refl
dotted-joined (n ∷ []) = refl
dotted-joined (n ∷ m ∷ ns) = ap (λ t. decimal n ++ 46 ∷ t) (dotted-joined (m ∷ ns))

-- there is always a first part
abbrev HasPart : List (List ℕ) → Type 0
HasPart parts = (part : List ℕ) × (rest : List (List ℕ)) × (parts ≡ part ∷ rest)

with_byte-part : (byte : ℕ) (parts : List (List ℕ)) → HasPart parts → HasPart (with_byte byte parts)
with_byte-part byte parts h = (byte ∷ h.0, h.1, ap (with_byte byte) h.2)

parts_of-part : (text : List ℕ) → HasPart (parts_of text)
parts_of-part [] = ([], [], refl)
parts_of-part (byte ∷ text) = either (nat_eq byte 46) (parts_of-part text)
  where
    either : (b : Bool) → HasPart (parts_of text) → HasPart (cond b ([] ∷ parts_of text) (with_byte byte (parts_of text)))
    either true h = ([], parts_of text, refl)
    either false h = with_byte-part byte (parts_of text) h

joined-dot : (parts : List (List ℕ)) → HasPart parts → joined ([] ∷ parts) ≡ 46 ∷ joined parts
joined-dot parts h = ap (λ ps. joined ([] ∷ ps)) h.2 ∙ sym (ap (λ ps. 46 ∷ joined ps) h.2)

joined-byte : (byte : ℕ) (parts : List (List ℕ)) → HasPart parts → joined (with_byte byte parts) ≡ byte ∷ joined parts
joined-byte byte parts h = ap (λ ps. joined (with_byte byte ps)) h.2 ∙ first h.0 h.1 ∙ sym (ap (λ ps. byte ∷ joined ps) h.2)
  where
    first : (part : List ℕ) (rest : List (List ℕ)) → joined (with_byte byte (part ∷ rest)) ≡ byte ∷ joined (part ∷ rest)
    first part [] = refl
    first part (next ∷ rest) = refl

joined-parts_of : (text : List ℕ) → joined (parts_of text) ≡ text
joined-parts_of [] = refl
joined-parts_of (byte ∷ text) = either (nat_eq byte 46) refl (joined-parts_of text)
  where
    either : (b : Bool) → nat_eq byte 46 ≡ b → joined (parts_of text) ≡ text → joined (cond b ([] ∷ parts_of text) (with_byte byte (parts_of text))) ≡ byte ∷ text
    either true e rest = joined-dot (parts_of text) (parts_of-part text) ∙ ap (λ t. 46 ∷ t) rest ∙ ap (λ b. b ∷ text) (sym (eqb-true byte 46 e))
    either false e rest = joined-byte byte (parts_of text) (parts_of-part text) ∙ ap (λ t. byte ∷ t) rest

-- ---- the parts of digits are themselves

no_dot : (byte : ℕ) → is_digit byte ≡ true → nat_eq byte 46 ≡ false
no_dot byte is = ne_eqb byte 46 (λ e. let low = leb-true 48 byte (and_parts (nat_le 48 byte) (nat_le byte 57) is).0 in omega arith)

parts_of-digits : (digits : List ℕ) → AreDigits digits → parts_of digits ≡ digits ∷ []
parts_of-digits [] all = refl
parts_of-digits (d ∷ ds) all =
    let h = and_parts (is_digit d) (list_all is_digit ds) all in
    rw (no_dot d h.0, parts_of-digits ds h.1) refl

parts_of-dot : (digits text : List ℕ) → AreDigits digits → parts_of (digits ++ 46 ∷ text) ≡ digits ∷ parts_of text
parts_of-dot [] text all = refl
parts_of-dot (d ∷ ds) text all =
    let h = and_parts (is_digit d) (list_all is_digit ds) all in
    rw (no_dot d h.0, parts_of-dot ds text h.1) refl

are_digits : (number : ℕ) → is_number number ≡ true → AreDigits (decimal number)
are_digits number is = digits_decimal own number (is_number-parts number is).1

parts_of-dotted : (first : ℕ) (numbers : List ℕ) → list_all is_number (first ∷ numbers) ≡ true → parts_of (dotted (first ∷ numbers)) ≡ map decimal (first ∷ numbers)
parts_of-dotted first [] all = parts_of-digits (decimal first) (are_digits first (all_numbers-parts first [] all).0)
parts_of-dotted first (n ∷ ns) all =
    let h = all_numbers-parts first (n ∷ ns) all in
    parts_of-dot (decimal first) (dotted (n ∷ ns)) (are_digits first h.0) ∙ ap (λ ps. decimal first ∷ ps) (parts_of-dotted n ns h.1)

-- ---- the text of an identity

identity-all : (numbers : List ℕ) → is_identity numbers ≡ true → list_all is_number numbers ≡ true
identity-all numbers is = (and_parts (nat_lt 0 (length numbers) && nat_le (length numbers) 40) _ is).1

-- what is printed is read
pub identity_in-dotted : (numbers : List ℕ) → is_identity numbers ≡ true → identity_in (dotted numbers) ≡ Some numbers
unfolding identity_in
identity_in-dotted [] is = cc
identity_in-dotted (n ∷ ns) is =
    let all = identity-all (n ∷ ns) is in
    rw (parts_of-dotted n ns all, numbers_in-decimals (n ∷ ns) all, is) refl

read_parts : (read : Option (List ℕ)) (numbers : List ℕ) → option_and_then if_identity read ≡ Some numbers → (read ≡ Some numbers) × (is_identity numbers ≡ true)
read_parts None numbers e = cc
read_parts (Some ns) numbers e =
    let h = cond_some (is_identity ns) ns numbers e in
    (ap Some h.1, subst (λ l. is_identity l ≡ true) h.1 h.0)

-- what is read is printed so
pub dotted-identity_in : (text numbers : List ℕ) → identity_in text ≡ Some numbers → (is_identity numbers ≡ true) × (text ≡ dotted numbers)
unfolding identity_in
dotted-identity_in text numbers e =
    let h = read_parts (numbers_in (parts_of text)) numbers e in
    let parts = (decimals-numbers_in (parts_of text) numbers h.0).1 in
    (h.1, sym (dotted-joined numbers ∙ ap joined parts ∙ joined-parts_of text))

-- a text that is none of an identity says none
pub identity_in-none : (text : List ℕ) → (SpellsIdentity text → ⊥) → identity_in text ≡ None
identity_in-none text none = either (identity_in text) refl
  where
    either : (read : Option (List ℕ)) → identity_in text ≡ read → read ≡ None
    either None e = refl
    either (Some numbers) e = let h = dotted-identity_in text numbers e in absurd (none (numbers, h.0, h.1))
