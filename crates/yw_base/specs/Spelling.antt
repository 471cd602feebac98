-- How names are written.
use Rattle.std.specs.Prelude.{ℕ, ◌&&◌, ◌||◌, ◌==◌, List, [], ◌∷◌, length, Bool, true, not, nat_le, nat_lt, slice_index}
use Rattle.std.specs.List.{list_all, list_any}
use Rattle.std.specs.Str.{bytes_eq}

abbrev pub most_name_bytes : ℕ
most_name_bytes = 64

abbrev pub is_digit : ℕ → Bool
is_digit byte = nat_le 48 byte && nat_le byte 57

abbrev pub is_letter : ℕ → Bool
is_letter byte = (nat_le 65 byte && nat_le byte 90) || (nat_le 97 byte && nat_le byte 122)

-- an ASCII letter, a digit or `_`
abbrev pub is_word_byte : ℕ → Bool
is_word_byte byte = byte == 95 || is_digit byte || is_letter byte

-- 1 to 64 ASCII letters, digits or `_`, the first no digit
abbrev pub is_name : List ℕ → Bool
is_name bytes = nat_lt 0 (length bytes) && nat_le (length bytes) most_name_bytes && not (is_digit (slice_index bytes 0)) && list_all is_word_byte bytes

-- no text comes twice
abbrev pub are_distinct : List (List ℕ) → Bool
are_distinct [] = true
are_distinct (text ∷ texts) = not (list_any (bytes_eq text) texts) && are_distinct texts
