-- How the text of an identity is read: numbers in decimal, with a dot between each two. Our own.
use Rattle.std.specs.Prelude.{ℕ, ◌==◌, ◌&&◌, List, [], ◌∷◌, length, Bool, not, nat_lt, slice_index, if◌then◌else◌, Option, Some, None, option_and_then, option_map}
use Rattle.std.specs.List.{list_all}
use Rattle.std.specs.Str.Parse.{digits_value}
use Rattle.yw_base.specs.Identity.{is_identity, is_number}
use Rattle.yw_base.specs.Spelling.{is_digit}
use Rattle.yw_lines.specs.Lines.{with_byte}

abbrev pub dot : ℕ
dot = 46

-- what stands between dots
abbrev pub parts_of : List ℕ → List (List ℕ)
parts_of [] = [] ∷ []
parts_of (b ∷ bs) = if b == dot then [] ∷ parts_of bs else with_byte b (parts_of bs)

-- digits, the first of them no 0
abbrev pub is_numeral : List ℕ → Bool
is_numeral part = nat_lt 0 (length part) && list_all is_digit part && not (slice_index part 0 == 48)

-- a number from 1 to 2^48 - 1
abbrev pub number_in : List ℕ → Option ℕ
number_in part = if is_numeral part && is_number (digits_value 10 part) then Some (digits_value 10 part) else None

abbrev pub numbers_in : List (List ℕ) → Option (List ℕ)
numbers_in [] = Some []
numbers_in (part ∷ parts) = option_and_then (λ number. option_map (λ numbers. number ∷ numbers) (numbers_in parts)) (number_in part)

abbrev pub if_identity : List ℕ → Option (List ℕ)
if_identity numbers = if is_identity numbers then Some numbers else None

-- the identity that the text spells, if it spells one
unfoldable pub identity_in : List ℕ → Option (List ℕ)
identity_in text = option_and_then if_identity (numbers_in (parts_of text))
