-- How identities, names and places are written: which bytes their texts lack, and that they are read back.
use Rattle.std.specs.Prelude.{◌≡◌, ◌+◌, ◌%◌, ◌<◌, ◌^◌, ◌&&◌, ◌==◌, ℕ, Bool, true, false, List, [], ◌∷◌, ◌++◌, nat_le, nat_lt, unwrap_or, decimal, refl}
use Rattle.std.specs.List.{list_all}
use Rattle.std.proofs.Common.{sym, ◌∙◌, ap, subst, drop, append_assoc, arith}
use Rattle.std.proofs.lemmas.Bool.{and_from, and_parts, ltb-true}
use Rattle.std.proofs.lemmas.Bool.Decides.{nat_tests}
use Rattle.std.proofs.lemmas.Fmt.{decimal_by_steps}
use Rattle.std.proofs.lemmas.List.Elements.{All-append, All-cons}
use Rattle.std.proofs.lemmas.List.Folds.{list_all-append}
use Rattle.yw_base.proofs.DottedLemmas.{read-identity, read_from}
use Rattle.yw_base.specs.Identity.{dotted, is_identity, is_number, number_end}
use Rattle.yw_base.specs.Spelling.{is_name, is_word_byte}
use Rattle.yw_spec.specs.Net.{place_text}
use Rattle.yw_spec.specs.declared.spec.Place.{Place}
use Rattle.yw_spec.specs.declared.spec.Place.TheVariants.{Named, Between}
use Rattle.yw_state.proofs.Tests.{and_right}
use Rattle.yw_state.specs.Identity.{Ident}
use Rattle.yw_told.proofs.Parts.{Lacks, all_lack, cut, cut_at, cut_one}
use Rattle.yw_within.specs.Within.{is_named_place}

-- ---- identities

-- a digit or a dot
abbrev is_dotted : ℕ → Bool
is_dotted b = nat_le 46 b && nat_le b 57

all_of_both : (xs ys : List ℕ) → list_all is_dotted xs ≡ true → list_all is_dotted ys ≡ true → list_all is_dotted (xs ++ ys) ≡ true
all_of_both xs ys left right = list_all-append is_dotted xs ys ∙ and_from (list_all is_dotted xs) (list_all is_dotted ys) left right

one_digit : (n : ℕ) → n < 10 → list_all is_dotted ((48 + n) ∷ []) ≡ true
one_digit n low = grind (arith, nat_tests)

last_digit : (n : ℕ) → is_dotted (48 + n % 10) ≡ true
last_digit n = grind (arith, nat_tests)

digits_dotted : (n : ℕ) → n < 2 ^ 64 → list_all is_dotted (decimal n) ≡ true
digits_dotted n small =
    decimal_by_steps (λ (m : ℕ) (ds : List ℕ). list_all is_dotted ds ≡ true) one_digit
    (λ m ds high front. all_of_both ds ((48 + m % 10) ∷ []) front (and_from (is_dotted (48 + m % 10)) true (last_digit m) refl)) n small

number_dotted : (n : ℕ) → is_number n ≡ true → list_all is_dotted (decimal n) ≡ true
number_dotted n is =
    let low = ltb-true n number_end (and_right (nat_lt 0 n) (nat_lt n number_end) is) in
    digits_dotted n (omega (arith, low))

all_dotted : (numbers : List ℕ) → list_all is_number numbers ≡ true → list_all is_dotted (dotted numbers) ≡ true
all_dotted [] all = refl
all_dotted (n ∷ []) all = number_dotted n (and_parts (is_number n) true all).0
all_dotted (n ∷ m ∷ ns) all =
    let parts = and_parts (is_number n) (list_all is_number (m ∷ ns)) all in
    all_of_both (decimal n) (46 ∷ dotted (m ∷ ns)) (number_dotted n parts.0) (all_dotted (m ∷ ns) parts.1)

pub no_blank_in_identity : (j : Ident) → is_identity j ≡ true → Lacks 32 (dotted j)
no_blank_in_identity j is = all_lack is_dotted 32 (dotted j) refl (all_dotted j (and_right _ _ is))

-- the identity that the text spells
abbrev pub ident_read : List ℕ → Ident
ident_read text = unwrap_or (read_from [] 0 text) []

pub ident_is_read : (j : Ident) → is_identity j ≡ true → ident_read (dotted j) ≡ j
ident_is_read j is = ap (λ o. unwrap_or o []) (read-identity j is)

-- ---- names

pub name_lacks : (c : ℕ) (name : List ℕ) → is_word_byte c ≡ false → is_name name ≡ true → Lacks c name
name_lacks c name other is = all_lack is_word_byte c name other (and_right _ _ is)

-- ---- places

-- the place whose text has these parts round `-`
abbrev place_of_parts : List (List ℕ) → Place
place_of_parts [] = Named []
place_of_parts (name ∷ []) = Named name
place_of_parts (from ∷ to ∷ parts) = Between from (drop 1 to)

-- the place that the text spells
abbrev pub place_read : List ℕ → Place
place_read text = place_of_parts (cut 45 text)

grouped : (from to : List ℕ) → place_text (Between from to) ≡ from ++ 45 ∷ 62 ∷ to
grouped from to = append_assoc from (45 ∷ 62 ∷ []) to

arrow_lacks : (c : ℕ) (to : List ℕ) → (62 == c) ≡ false → Lacks c to → Lacks c (62 ∷ to)
arrow_lacks c to other lacks = All-cons (λ b. (b == c) ≡ false) 62 to other lacks

pub place_is_read : (p : Place) → is_named_place p ≡ true → place_read (place_text p) ≡ p
place_is_read (Named name) named = ap place_of_parts (cut_one 45 name (name_lacks 45 name refl named))
place_is_read (Between from to) named =
    let parts = and_parts (is_name from) (is_name to) named in
    let last = cut_one 45 (62 ∷ to) (arrow_lacks 45 to refl (name_lacks 45 to refl parts.1)) in
    ap place_read (grouped from to)
    ∙ ap place_of_parts (cut_at 45 from (62 ∷ to) (name_lacks 45 from refl parts.0) refl ∙ ap (λ (ps : List (List ℕ)). from ∷ ps) last)

pub no_blank_in_place : (p : Place) → is_named_place p ≡ true → Lacks 32 (place_text p)
no_blank_in_place (Named name) named = name_lacks 32 name refl named
no_blank_in_place (Between from to) named =
    let parts = and_parts (is_name from) (is_name to) named in
    let last = arrow_lacks 32 to refl (name_lacks 32 to refl parts.1) in
    let arrow = All-cons (λ b. (b == 32) ≡ false) 45 (62 ∷ to) refl last in
    subst (Lacks 32) (sym (grouped from to))
    (All-append (λ b. (b == 32) ≡ false) from (45 ∷ 62 ∷ to) (name_lacks 32 from refl parts.0) arrow)
