-- A search that marks nodes and keeps those whose flows it hasn't followed yet, the pending ones.
use Rattle.std.specs.Prelude.{◌≡◌, ℕ, ◌+◌, ◌⊎◌, List, length, Bool, not, Contains, count_by}
use Rattle.yw_reach.specs.Marking.{Marked}

-- how many nodes have no mark
abbrev pub unmarked : List Bool → ℕ
unmarked marks = count_by not marks

-- The nodes of a row were marked, and those that had no mark are pending too.
pub record Visits (row : List ℕ) (marks : List Bool) (pending : List ℕ) (marks2 : List Bool) (pending2 : List ℕ) : Type 0 where
  pub len : length marks2 ≡ length marks
  pub keeps : (k : ℕ) → Marked marks k → Marked marks2 k
  pub all : (k : ℕ) → Contains row k → Marked marks2 k
  pub only : (k : ℕ) → Marked marks2 k → Marked marks k ⊎ Contains row k
  pub waits : (k : ℕ) → Contains pending k → Contains pending2 k
  pub fresh : (k : ℕ) → Marked marks2 k → Marked marks k ⊎ Contains pending2 k
  pub from : (k : ℕ) → Contains pending2 k → Contains pending k ⊎ Contains row k
  pub count : length pending2 + unmarked marks2 ≡ length pending + unmarked marks
