-- The kind of a token is known by its first byte, but that a name may be reserved.
use Rattle.std.proofs.Common.{◌≡◌, ◌≢◌, ℕ, zero, suc, ◌||◌, Bool, true, false, List, [], ◌∷◌, length, get_or, take, inl, inr, refl, sym, ap, ◌∙◌, subst, arith}
use Rattle.std.specs.Prelude.{codes, nat_eq, not}
use Rattle.std.specs.List.{list_all, list_any}
use Rattle.std.specs.Str.{bytes_eq}
use Rattle.std.proofs.lemmas.Bool.{and_parts, eq-eqb, eqb-true, false_from_ne_true, false≢true, not-true, or_cases, or_left, or_parts, or_right}
use Rattle.std.proofs.lemmas.List.{take_all}
use Rattle.yw_base.specs.Spelling.{is_digit, is_letter, is_name, is_word_byte}
use Rattle.yw_lex.specs.Spelling.{IsName, IsNumber, IsSign, IsText, IsToken, Spells, is_before_equals, is_reserved, quote, reserved_words}
use Rattle.yw_lex.specs.Tokens.{HasNoFront, IsLongest, IsLongestToken, is_blank}
use Rattle.yw_lex.proofs.FrontLemmas.{name_parts, number_parts}
use Rattle.yw_lex.specs.declared.token.Word.{Word}
use Rattle.yw_lex.specs.declared.token.Word.TheVariants.{Number, Text, Name, Reserved, Sign}

bytes_same : (xs ys : List ℕ) → bytes_eq xs ys ≡ true → xs ≡ ys
bytes_same [] [] is = refl
bytes_same [] (y ∷ ys) is = absurd (false≢true is)
bytes_same (x ∷ xs) [] is = absurd (false≢true is)
bytes_same (x ∷ xs) (y ∷ ys) is =
    let both = and_parts (nat_eq x y) (bytes_eq xs ys) is in
    ap (λ z. z ∷ xs) (eqb-true x y both.0) ∙ ap (λ zs. y ∷ zs) (bytes_same xs ys both.1)

-- a test that each of some texts passes, one of them passes
one_of : (test : List ℕ → Bool) (words : List (List ℕ)) (bytes : List ℕ) → list_any (bytes_eq bytes) words ≡ true → list_all test words ≡ true → test bytes ≡ true
one_of test [] bytes is all = absurd (false≢true is)
one_of test (word ∷ words) bytes is all =
    let both = and_parts (test word) (list_all test words) all in
    elim (or_cases (bytes_eq bytes word) (list_any (bytes_eq bytes) words) is) [
      | inl same ↦ ap test (bytes_same bytes word same) ∙ both.0
      | inr more ↦ one_of test words bytes more both.1
    ]

one_of_bytes : (test : ℕ → Bool) (codes : List ℕ) (byte : ℕ) → list_any (λ code. nat_eq code byte) codes ≡ true → list_all test codes ≡ true → test byte ≡ true
one_of_bytes test [] byte is all = absurd (false≢true is)
one_of_bytes test (code ∷ codes) byte is all =
    let both = and_parts (test code) (list_all test codes) all in
    elim (or_cases (nat_eq code byte) (list_any (λ c. nat_eq c byte) codes) is) [
      | inl same ↦ ap test (sym (eqb-true code byte same)) ∙ both.0
      | inr more ↦ one_of_bytes test codes byte more both.1
    ]

pub reserved_is_name : (bytes : List ℕ) → is_reserved bytes ≡ true → IsName bytes
reserved_is_name bytes is = one_of is_name reserved_words bytes is refl

-- no byte of a number or a name, no quote and no blank begins a sign
abbrev begins_sign : ℕ → Bool
begins_sign byte = not (is_word_byte byte || nat_eq byte quote || is_blank byte)

sign_begins : (bytes : List ℕ) → IsSign bytes → begins_sign (get_or bytes 0 0) ≡ true
sign_begins [] is = absurd (false≢true is)
sign_begins (a ∷ []) is = one_of_bytes begins_sign (codes "=<>+-*/%()[],") a is refl
sign_begins (a ∷ b ∷ []) is = one_of_bytes begins_sign (codes "!<>") a (and_parts (is_before_equals a) (nat_eq b 61) is).0 refl
sign_begins (a ∷ b ∷ c ∷ bytes) is = absurd (false≢true is)

-- what a token of each kind begins with
abbrev Begins : Word → ℕ → Type 0
Begins Number byte = is_digit byte ≡ true
Begins Text byte = byte ≡ quote
Begins Name byte = (is_digit byte ≡ false) × (is_word_byte byte ≡ true)
Begins Reserved byte = (is_digit byte ≡ false) × (is_word_byte byte ≡ true)
Begins Sign byte = begins_sign byte ≡ true

number_begins_so : (bytes : List ℕ) → IsNumber bytes → is_digit (get_or bytes 0 0) ≡ true
number_begins_so [] is = absurd (false≢true is)
number_begins_so (byte ∷ bytes) is = (number_parts (byte ∷ bytes) (length (byte ∷ bytes)) (omega arith) (subst IsNumber (sym (take_all (length (byte ∷ bytes)) (byte ∷ bytes) (omega arith))) is)).digits 0 (omega arith)

name_begins : (bytes : List ℕ) → IsName bytes → (is_digit (get_or bytes 0 0) ≡ false) × (is_word_byte (get_or bytes 0 0) ≡ true)
name_begins [] is = absurd (false≢true is)
name_begins (byte ∷ bytes) is =
    let p = name_parts (byte ∷ bytes) (length (byte ∷ bytes)) (omega arith) (subst IsName (sym (take_all (length (byte ∷ bytes)) (byte ∷ bytes) (omega arith))) is) in
    (p.no_digit, p.words 0 p.some)

pub begins : (word : Word) (bytes : List ℕ) → Spells word bytes → Begins word (get_or bytes 0 0)
begins Number bytes is = number_begins_so bytes is
begins Text bytes is = ap (λ t. get_or t 0 0) is.quoted
begins Name bytes is = name_begins bytes is.0
begins Reserved bytes is = name_begins bytes (reserved_is_name bytes is)
begins Sign bytes is = sign_begins bytes is

pub not_empty : (word : Word) → Spells word [] → ⊥
not_empty Number is = false≢true is
not_empty Text is = omega (arith, ap length is.quoted)
not_empty Name is = false≢true is.0
not_empty Reserved is = false≢true (reserved_is_name [] is)
not_empty Sign is = false≢true is

pub first_of_front : (word : Word) (bytes : List ℕ) (len : ℕ) → Spells word (take len bytes) → get_or (take len bytes) 0 0 ≡ get_or bytes 0 0
first_of_front word bytes zero is = absurd (not_empty word is)
first_of_front word [] (suc len) is = refl
first_of_front word (byte ∷ bytes) (suc len) is = refl

digit_is_word : (byte : ℕ) → is_digit byte ≡ true → is_word_byte byte ≡ true
digit_is_word byte digit = or_left (nat_eq byte 95 || is_digit byte) (is_letter byte) (or_right (nat_eq byte 95) (is_digit byte) digit)

blank_is_no_word : (byte : ℕ) → is_blank byte ≡ true → is_word_byte byte ≡ true → ⊥
blank_is_no_word byte blank word =
    elim (or_cases (nat_eq byte 32 || nat_eq byte 9) (nat_eq byte 10) blank) [
      | inl more ↦
          elim (or_cases (nat_eq byte 32) (nat_eq byte 9) more) [
            | inl same ↦ false≢true (ap is_word_byte (sym (eqb-true byte 32 same)) ∙ word)
            | inr same ↦ false≢true (ap is_word_byte (sym (eqb-true byte 9 same)) ∙ word)
          ]
      | inr same ↦ false≢true (ap is_word_byte (sym (eqb-true byte 10 same)) ∙ word)
    ]

word_begins_no_sign : (byte : ℕ) → is_word_byte byte ≡ true → begins_sign byte ≡ true → ⊥
word_begins_no_sign byte word sign =
    let none = or_parts (is_word_byte byte || nat_eq byte quote) (is_blank byte) (not-true (is_word_byte byte || nat_eq byte quote || is_blank byte) sign) in
    false≢true (sym (or_parts (is_word_byte byte) (nat_eq byte quote) none.0).0 ∙ word)

digit_begins_no_sign : (byte : ℕ) → is_digit byte ≡ true → begins_sign byte ≡ true → ⊥
digit_begins_no_sign byte digit = word_begins_no_sign byte (digit_is_word byte digit)

quote_begins_no_sign : (byte : ℕ) → byte ≡ quote → begins_sign byte ≡ true → ⊥
quote_begins_no_sign byte same sign = false≢true (sym (ap begins_sign same) ∙ sign)

-- ---- the kind is one
abbrev picked : Bool → Bool → Bool → Bool → Word
picked true is_word is_one quoted = Number
picked false true true quoted = Reserved
picked false true false quoted = Name
picked false false is_one true = Text
picked false false is_one false = Sign

-- the kind that a token must have
abbrev kind_of : List ℕ → Word
kind_of bytes = picked (is_digit (get_or bytes 0 0)) (is_word_byte (get_or bytes 0 0)) (is_reserved bytes) (nat_eq (get_or bytes 0 0) quote)

number_kind : (d w r q : Bool) → d ≡ true → Number ≡ picked d w r q
number_kind d w r q dt = ap (λ x. picked x w r q) (sym dt)

reserved_kind : (d w r q : Bool) → d ≡ false → w ≡ true → r ≡ true → Reserved ≡ picked d w r q
reserved_kind d w r q df wt rt = ap (λ x. picked x true true q) (sym df) ∙ ap (λ x. picked d x true q) (sym wt) ∙ ap (λ x. picked d w x q) (sym rt)

name_kind : (d w r q : Bool) → d ≡ false → w ≡ true → r ≡ false → Name ≡ picked d w r q
name_kind d w r q df wt rf = ap (λ x. picked x true false q) (sym df) ∙ ap (λ x. picked d x false q) (sym wt) ∙ ap (λ x. picked d w x q) (sym rf)

text_kind : (d w r q : Bool) → d ≡ false → w ≡ false → q ≡ true → Text ≡ picked d w r q
text_kind d w r q df wf qt = ap (λ x. picked x false r true) (sym df) ∙ ap (λ x. picked d x r true) (sym wf) ∙ ap (λ x. picked d w r x) (sym qt)

sign_kind : (d w r q : Bool) → d ≡ false → w ≡ false → q ≡ false → Sign ≡ picked d w r q
sign_kind d w r q df wf qf = ap (λ x. picked x false r false) (sym df) ∙ ap (λ x. picked d x r false) (sym wf) ∙ ap (λ x. picked d w r x) (sym qf)

record IsOther (byte : ℕ) : Type 0 where
  no_digit : is_digit byte ≡ false
  no_word : is_word_byte byte ≡ false
  no_quote : nat_eq byte quote ≡ false
  no_blank : is_blank byte ≡ false

other_byte : (byte : ℕ) → begins_sign byte ≡ true → IsOther byte
other_byte byte sign =
    let all = or_parts (is_word_byte byte || nat_eq byte quote) (is_blank byte) (not-true (is_word_byte byte || nat_eq byte quote || is_blank byte) sign) in
    let rest = or_parts (is_word_byte byte) (nat_eq byte quote) all.0 in
    record {
      no_digit = false_from_ne_true (is_digit byte) (λ digit. digit_begins_no_sign byte digit sign);
      no_word = rest.0;
      no_quote = rest.1;
      no_blank = all.1;
    }

word_is_kind : (word : Word) (bytes : List ℕ) → Spells word bytes → word ≡ kind_of bytes
word_is_kind Number bytes is = number_kind _ _ _ _ (begins Number bytes is)
word_is_kind Text bytes is =
    let b = begins Text bytes is in
    text_kind _ _ _ _ (ap is_digit b) (ap is_word_byte b) (eq-eqb (get_or bytes 0 0) quote b)
word_is_kind Name bytes is =
    let b = begins Name bytes is in
    name_kind _ _ _ _ b.0 b.1 is.1
word_is_kind Reserved bytes is =
    let b = begins Reserved bytes is in
    reserved_kind _ _ _ _ b.0 b.1 is
word_is_kind Sign bytes is =
    let other = other_byte (get_or bytes 0 0) (begins Sign bytes is) in
    sign_kind _ _ _ _ other.no_digit other.no_word other.no_quote

pub same_word : (first second : Word) (bytes : List ℕ) → Spells first bytes → Spells second bytes → first ≡ second
same_word first second bytes a b = word_is_kind first bytes a ∙ sym (word_is_kind second bytes b)

pub blank_is_no_token : (word : Word) (bytes : List ℕ) → is_blank (get_or bytes 0 0) ≡ true → Spells word bytes → ⊥
blank_is_no_token Number bytes blank is = blank_is_no_word (get_or bytes 0 0) blank (digit_is_word (get_or bytes 0 0) (begins Number bytes is))
blank_is_no_token Text bytes blank is = false≢true (sym (ap is_blank (begins Text bytes is)) ∙ blank)
blank_is_no_token Name bytes blank is = blank_is_no_word (get_or bytes 0 0) blank (begins Name bytes is).1
blank_is_no_token Reserved bytes blank is = blank_is_no_word (get_or bytes 0 0) blank (begins Reserved bytes is).1
blank_is_no_token Sign bytes blank is = false≢true (sym (other_byte (get_or bytes 0 0) (begins Sign bytes is)).no_blank ∙ blank)

-- ---- tokens by their first byte
number_only : (word : Word) (bytes : List ℕ) → is_digit (get_or bytes 0 0) ≡ true → Spells word bytes → IsNumber bytes
number_only Number bytes digit is = is
number_only Text bytes digit is = absurd (false≢true (sym (ap is_digit (begins Text bytes is)) ∙ digit))
number_only Name bytes digit is = absurd (false≢true (sym (begins Name bytes is).0 ∙ digit))
number_only Reserved bytes digit is = absurd (false≢true (sym (begins Reserved bytes is).0 ∙ digit))
number_only Sign bytes digit is = absurd (digit_begins_no_sign (get_or bytes 0 0) digit (begins Sign bytes is))

name_only : (word : Word) (bytes : List ℕ) → is_digit (get_or bytes 0 0) ≡ false → is_word_byte (get_or bytes 0 0) ≡ true → Spells word bytes → IsName bytes
name_only Number bytes no_digit word is = absurd (false≢true (sym no_digit ∙ begins Number bytes is))
name_only Text bytes no_digit word is = absurd (false≢true (sym (ap is_word_byte (begins Text bytes is)) ∙ word))
name_only Name bytes no_digit word is = is.0
name_only Reserved bytes no_digit word is = reserved_is_name bytes is
name_only Sign bytes no_digit word is = absurd (word_begins_no_sign (get_or bytes 0 0) word (begins Sign bytes is))

text_only : (word : Word) (bytes : List ℕ) → get_or bytes 0 0 ≡ quote → Spells word bytes → IsText bytes
text_only Number bytes same is = absurd (false≢true (sym (ap is_digit same) ∙ begins Number bytes is))
text_only Text bytes same is = is
text_only Name bytes same is = absurd (false≢true (sym (ap is_word_byte same) ∙ (begins Name bytes is).1))
text_only Reserved bytes same is = absurd (false≢true (sym (ap is_word_byte same) ∙ (begins Reserved bytes is).1))
text_only Sign bytes same is = absurd (quote_begins_no_sign (get_or bytes 0 0) same (begins Sign bytes is))

sign_only : (word : Word) (bytes : List ℕ) → is_digit (get_or bytes 0 0) ≡ false → is_word_byte (get_or bytes 0 0) ≡ false → get_or bytes 0 0 ≢ quote → Spells word bytes → IsSign bytes
sign_only Number bytes no_digit no_word other is = absurd (false≢true (sym no_digit ∙ begins Number bytes is))
sign_only Text bytes no_digit no_word other is = absurd (other (begins Text bytes is))
sign_only Name bytes no_digit no_word other is = absurd (false≢true (sym no_word ∙ (begins Name bytes is).1))
sign_only Reserved bytes no_digit no_word other is = absurd (false≢true (sym no_word ∙ (begins Reserved bytes is).1))
sign_only Sign bytes no_digit no_word other is = is

-- Of which kind tokens at the front are is known: then the longest of that kind is the longest token.
module _ (Is : List ℕ → Type 0) (bytes : List ℕ) (only : (word : Word) (front : List ℕ) → get_or front 0 0 ≡ get_or bytes 0 0 → Spells word front → Is front) where
  longest_token : (word : Word) (len : ℕ) → IsLongest Is bytes len → Spells word (take len bytes) → IsLongestToken word bytes len
  longest_token word len l spelled = record {
    spelled = spelled;
    longest = record {
      within = l.within;
      here = (word, spelled);
      longest = λ longer more within is. l.longest longer more within (only is.0 (take longer bytes) (first_of_front is.0 bytes longer is.1) is.1);
    };
  }

  no_token : HasNoFront Is bytes → HasNoFront IsToken bytes
  no_token none len within is = none len within (only is.0 (take len bytes) (first_of_front is.0 bytes len is.1) is.1)

module _ (bytes : List ℕ) where
  pub token_by_digit : is_digit (get_or bytes 0 0) ≡ true → (len : ℕ) → IsLongest IsNumber bytes len → IsLongestToken Number bytes len
  token_by_digit digit len l =
      longest_token IsNumber bytes (λ word front same is. number_only word front (ap is_digit same ∙ digit) is) Number len l l.here

  module _ (no_digit : is_digit (get_or bytes 0 0) ≡ false) where
    pub token_by_word : is_word_byte (get_or bytes 0 0) ≡ true → (word : Word) (len : ℕ) → IsLongest IsName bytes len → Spells word (take len bytes) → IsLongestToken word bytes len
    token_by_word first word len l spelled =
        longest_token IsName bytes (λ w front same is. name_only w front (ap is_digit same ∙ no_digit) (ap is_word_byte same ∙ first) is) word len l spelled

    module _ (no_word : is_word_byte (get_or bytes 0 0) ≡ false) (other : get_or bytes 0 0 ≢ quote) where
      only_sign : (word : Word) (front : List ℕ) → get_or front 0 0 ≡ get_or bytes 0 0 → Spells word front → IsSign front
      only_sign word front same is =
          sign_only word front (ap is_digit same ∙ no_digit) (ap is_word_byte same ∙ no_word) (λ q. other (sym same ∙ q)) is

      pub token_by_sign : (len : ℕ) → IsLongest IsSign bytes len → IsLongestToken Sign bytes len
      token_by_sign len l = longest_token IsSign bytes only_sign Sign len l l.here

      pub no_token_by_sign : HasNoFront IsSign bytes → HasNoFront IsToken bytes
      no_token_by_sign none = no_token IsSign bytes only_sign none

  pub token_by_quote : get_or bytes 0 0 ≡ quote → (len : ℕ) → IsLongest IsText bytes len → IsLongestToken Text bytes len
  token_by_quote first len l = longest_token IsText bytes (λ word front same is. text_only word front (same ∙ first) is) Text len l l.here

  pub no_token_by_quote : get_or bytes 0 0 ≡ quote → HasNoFront IsText bytes → HasNoFront IsToken bytes
  no_token_by_quote first none = no_token IsText bytes (λ word front same is. text_only word front (same ∙ first) is) none
