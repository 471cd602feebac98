-- The forms that the program's words have.
use Rattle.std.specs.Prelude.{◌≡◌, ◌⊎◌, ◌≤◌, ◌^◌, ℕ, List, [], ◌∷◌, map, length, codes, slice_index, Bool, IsTrue, Option, Some, String, string_bytes}
use Rattle.std.specs.Str.Parse.{IsNumeral, digits_value}
use Rattle.std.specs.declared.alloc.Global.{Global}

-- a number in decimal digits, without a leading zero
pub record Spells (text : List ℕ) (n : ℕ) : Type 0 where
  pub numeral : IsNumeral 10 text
  pub plain : slice_index text 0 ≡ 48 → length text ≡ 1
  pub value : digits_value 10 text ≡ n

abbrev pub least_limit : ℕ
least_limit = 64

abbrev pub greatest_limit : ℕ
greatest_limit = 2 ^ 30

-- the limit that the words may give
pub record IsLimit (text : List ℕ) (limit : ℕ) : Type 0 where
  pub spelled : Spells text limit
  pub least : least_limit ≤ limit
  pub greatest : limit ≤ greatest_limit

-- `run`, with the greatest limit, or `run --limit N` with that one
abbrev pub IsRun : List (String Global) → ℕ → Type 0
IsRun words limit =
    ((map string_bytes words ≡ codes "run" ∷ []) × (limit ≡ greatest_limit))
    ⊎ ((text : List ℕ) × (map string_bytes words ≡ codes "run" ∷ codes "--limit" ∷ text ∷ []) × IsLimit text limit)

-- one word, and nothing after it
abbrev pub IsWord : List ℕ → List (String Global) → Type 0
IsWord word words = map string_bytes words ≡ word ∷ []

abbrev pub IsCheck : List (String Global) → Type 0
IsCheck = IsWord (codes "check")

abbrev pub IsProve : List (String Global) → Type 0
IsProve = IsWord (codes "prove")

-- a number that is no greater than this
pub record IsNumberTo (greatest : ℕ) (text : List ℕ) (n : ℕ) : Type 0 where
  pub spelled : Spells text n
  pub small : n ≤ greatest

abbrev pub greatest_start : ℕ
greatest_start = 2147483647

abbrev pub greatest_count : ℕ
greatest_count = 100000

-- `bench START COUNT`
pub record IsBench (words : List (String Global)) (start count : ℕ) : Type 0 where
  pub first : List ℕ
  pub second : List ℕ
  pub split : map string_bytes words ≡ codes "bench" ∷ first ∷ second ∷ []
  pub start_is : IsNumberTo greatest_start first start
  pub count_is : IsNumberTo greatest_count second count

-- the words judge one text
abbrev pub IsJudging : List (String Global) → Type 0
IsJudging words = IsCheck words ⊎ IsProve words

-- where the desk tells what it holds and the words are `run`, for the limit that they give and the bytes that the source has
abbrev pub OnRun : Bool → List (String Global) → Option (List ℕ) → (ℕ → List ℕ → Type 0) → Type 0
OnRun tells words input P = IsTrue tells → (limit : ℕ) (bytes : List ℕ) → IsRun words limit → input ≡ Some bytes → P limit bytes

-- where the words are this one, for the bytes that the source has
abbrev pub OnWord : List ℕ → List (String Global) → Option (List ℕ) → (List ℕ → Type 0) → Type 0
OnWord word words input P = (bytes : List ℕ) → IsWord word words → input ≡ Some bytes → P bytes
