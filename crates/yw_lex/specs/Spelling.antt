-- How the tokens of an expression are written.
use Rattle.std.specs.Prelude.{◌≡◌, ℕ, ◌+◌, ◌-◌, ◌*◌, ◌<◌, ◌≤◌, ◌==◌, ◌&&◌, ◌||◌, Bool, true, false, not, List, [], ◌∷◌, ◌++◌, length, fold, nat_le, nat_lt, slice_index, codes}
use Rattle.std.specs.List.{list_all, list_any}
use Rattle.std.specs.Str.{bytes_eq}
use Rattle.yw_base.specs.Spelling.{is_digit, is_name}
use Rattle.yw_base.specs.Values.{most_text_bytes}
use Rattle.yw_lex.specs.declared.token.Word.{Word}
use Rattle.yw_lex.specs.declared.token.Word.TheVariants.{Number, Text, Name, Reserved, Sign}

-- 2^63 - 1
abbrev pub most_number : ℕ
most_number = 9223372036854775807

-- the number that decimal digits are
abbrev pub number_of : List ℕ → ℕ
number_of digits = fold (λ number digit. number * 10 + (digit - 48)) 0 digits

-- 0, or a digit from 1 to 9 and digits after it, at most 2^63 - 1
abbrev pub is_number : List ℕ → Bool
is_number bytes =
    nat_lt 0 (length bytes) && list_all is_digit bytes && (not (slice_index bytes 0 == 48) || length bytes == 1) && nat_le (number_of bytes) most_number

-- the digit may stand behind a number
abbrev pub IsNextDigit : ℕ → ℕ → Type 0
IsNextDigit number digit = (0 < number) × (is_digit digit ≡ true) × (number * 10 + (digit - 48) ≤ most_number)

abbrev pub quote : ℕ
quote = 39

-- a quote or a newline, which no text has in it
abbrev pub ends_text : ℕ → Bool
ends_text byte = byte == quote || byte == 10

-- up to 4,096 bytes between quotes, without a quote and a newline
pub record IsText (bytes : List ℕ) : Type 0 where
  pub inner : List ℕ
  pub quoted : bytes ≡ quote ∷ (inner ++ quote ∷ [])
  pub free : list_any ends_text inner ≡ false
  pub short : length inner ≤ most_text_bytes

abbrev pub reserved_words : List (List ℕ)
reserved_words = codes "and" ∷ codes "or" ∷ codes "not" ∷ codes "true" ∷ codes "false" ∷ codes "len" ∷ codes "sum" ∷ []

abbrev pub is_reserved : List ℕ → Bool
is_reserved bytes = list_any (bytes_eq bytes) reserved_words

abbrev pub is_single_sign : ℕ → Bool
is_single_sign byte = list_any (λ sign. sign == byte) (codes "=<>+-*/%()[],")

-- with `=` behind it a sign of two bytes
abbrev pub is_before_equals : ℕ → Bool
is_before_equals byte = list_any (λ sign. sign == byte) (codes "!<>")

-- a sign of two bytes is at the front
abbrev pub BeginsPair : List ℕ → Type 0
BeginsPair bytes = (1 < length bytes) × (is_before_equals (slice_index bytes 0) ≡ true) × (slice_index bytes 1 ≡ 61)

-- = < > + - * / % ( ) [ ] , != <= >=
abbrev pub is_sign : List ℕ → Bool
is_sign (byte ∷ []) = is_single_sign byte
is_sign (byte ∷ next ∷ []) = is_before_equals byte && next == 61
is_sign bytes = false

abbrev pub IsNumber : List ℕ → Type 0
IsNumber bytes = is_number bytes ≡ true

-- of a reserved word too
abbrev pub IsName : List ℕ → Type 0
IsName bytes = is_name bytes ≡ true

abbrev pub IsSign : List ℕ → Type 0
IsSign bytes = is_sign bytes ≡ true

-- the bytes are a token of this kind
abbrev pub Spells : Word → List ℕ → Type 0
Spells Number bytes = IsNumber bytes
Spells Text bytes = IsText bytes
Spells Name bytes = IsName bytes × (is_reserved bytes ≡ false)
Spells Reserved bytes = is_reserved bytes ≡ true
Spells Sign bytes = IsSign bytes

abbrev pub IsToken : List ℕ → Type 0
IsToken bytes = (word : Word) × Spells word bytes
