-- A set of numbers, a bit for each, in words of 64 bits.
use Rattle.std.specs.Prelude.{◌≡◌, ℕ, ◌+◌, ◌/◌, ◌%◌, ◌⊎◌, List, get_or, length}
use Rattle.std.specs.Int.{bit_at}

-- the number is in the set
abbrev pub Has : List ℕ → ℕ → Type 0
Has words k = bit_at (get_or words (k / 64) 0) (k % 64) ≡ 1

-- so many words have room for the numbers below `count`
abbrev pub words_for : ℕ → ℕ
words_for count = count / 64 + 1

-- Those of which P holds were added, and nothing else has changed.
pub record Adds (P : ℕ → Type 0) (old new : List ℕ) : Type 0 where
  pub len : length new ≡ length old
  pub only : (k : ℕ) → Has new k → Has old k ⊎ P k
  pub keeps : (k : ℕ) → Has old k → Has new k
  pub all : (k : ℕ) → P k → Has new k

-- the number was added
abbrev pub AddsOne : ℕ → List ℕ → List ℕ → Type 0
AddsOne k old new = Adds (λ j. j ≡ k) old new
