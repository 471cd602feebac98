-- How much of the input was taken. It had `bytes`, and has `left` now.
use Rattle.std.specs.Prelude.{◌≡◌, ◌+◌, ◌≤◌, ◌++◌, ℕ, List, length, drop, Option, Some}

-- These bytes were taken of all, and the rest is left.
pub record HasTaken (bytes taken : List ℕ) (left : Option (List ℕ)) : Type 0 where
  pub rest : List ℕ
  pub split : bytes ≡ taken ++ rest
  pub still : left ≡ Some rest

-- Some were taken, at most one more than the limit.
abbrev pub TakesSome : ℕ → List ℕ → Option (List ℕ) → Type 0
TakesSome limit bytes left = (taken : List ℕ) × HasTaken bytes taken left × (length taken ≤ limit + 1)

-- All were taken, or one more than the limit where there are more.
abbrev pub TakesAll : ℕ → List ℕ → Option (List ℕ) → Type 0
TakesAll limit bytes left = left ≡ Some (drop (limit + 1) bytes)
