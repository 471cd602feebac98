-- Identities of cases, items and runs: lists of numbers, written in decimal with dots between them.
use Rattle.std.specs.Prelude.{◌≡◌, ℕ, ◌==◌, ◌&&◌, List, [], ◌∷◌, ◌++◌, length, Bool, true, false, nat_le, nat_lt}
use Rattle.std.specs.Fmt.{decimal}
use Rattle.std.specs.List.{list_all}

abbrev pub most_numbers : ℕ
most_numbers = 40

-- 2^48, the first number that is too large
abbrev pub number_end : ℕ
number_end = 281474976710656

abbrev pub is_number : ℕ → Bool
is_number number = nat_lt 0 number && nat_lt number number_end

-- 1 to 40 numbers, each from 1 to 2^48 - 1
abbrev pub is_identity : List ℕ → Bool
is_identity numbers = nat_lt 0 (length numbers) && nat_le (length numbers) most_numbers && list_all is_number numbers

-- the numbers in decimal, with a dot between each two
abbrev pub dotted : List ℕ → List ℕ
dotted [] = []
dotted (number ∷ []) = decimal number
dotted (number ∷ next ∷ numbers) = decimal number ++ 46 ∷ dotted (next ∷ numbers)

-- the text is that of an identity
abbrev pub SpellsIdentity : List ℕ → Type 0
SpellsIdentity text = (numbers : List ℕ) × (is_identity numbers ≡ true) × (text ≡ dotted numbers)

-- the identity begins with all of top
abbrev pub under : List ℕ → List ℕ → Bool
under identity [] = true
under [] (number ∷ top) = false
under (first ∷ identity) (number ∷ top) = number == first && under identity top

-- the identity with this number behind
abbrev pub child : List ℕ → ℕ → List ℕ
child identity number = identity ++ number ∷ []

abbrev but_last : ℕ → List ℕ → List ℕ
but_last number [] = []
but_last number (next ∷ numbers) = number ∷ but_last next numbers

-- without the last number
abbrev pub parent : List ℕ → List ℕ
parent [] = []
parent (number ∷ numbers) = but_last number numbers

-- the number of the case in which it lies
abbrev pub case_number : List ℕ → ℕ
case_number [] = 0
case_number (number ∷ numbers) = number
