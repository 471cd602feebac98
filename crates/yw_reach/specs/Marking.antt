-- Which nodes are marked.
use Rattle.std.specs.Prelude.{◌≡◌, ℕ, ◌<◌, List, length, get_or, Bool, true, false, Option, Some, None}

-- there is a mark at k
abbrev pub Marked : List Bool → ℕ → Type 0
Marked marks k = get_or marks k false ≡ true

-- each of `count` nodes is marked exactly where P holds of it, and P holds of nothing else
pub record AreMarked (count : ℕ) (P : ℕ → Type 0) (marks : List Bool) : Type 0 where
  pub len : length marks ≡ count
  pub only : (k : ℕ) → Marked marks k → P k
  pub all : (k : ℕ) → P k → Marked marks k

-- it is the first of the nodes that lacks one of two marks; None where none does
abbrev pub IsFirstLacking : ℕ → List Bool → List Bool → Option ℕ → Type 0
IsFirstLacking count one two None = (k : ℕ) → k < count → Marked one k × Marked two k
IsFirstLacking count one two (Some node) =
    (node < count)
    × ((k : ℕ) → k < node → Marked one k × Marked two k)
    × ¬ (Marked one node × Marked two node)
