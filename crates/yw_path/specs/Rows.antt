-- A set for each number, of those that lead to it.
use Rattle.std.specs.Prelude.{◌≡◌, ℕ, ◌<◌, List, [], get_or, length}
use Rattle.yw_path.specs.Bits.{Adds, Has, words_for}
use Rattle.yw_reach.specs.Walks.{PathAlong}

-- u is in the row of t
abbrev pub Leads : List (List ℕ) → ℕ → ℕ → Type 0
Leads rows u t = Has (get_or rows t []) u

-- There is a row for each number below `count`, with room for as many, and it has no others.
pub record AreRows (count : ℕ) (rows : List (List ℕ)) : Type 0 where
  pub len : length rows ≡ count
  pub width : (t : ℕ) → t < count → length (get_or rows t []) ≡ words_for count
  pub within : (u t : ℕ) → Leads rows u t → u < count

-- To each row that has k those of which P holds were added, and nothing else has changed.
pub record AddsWhere (k : ℕ) (P : ℕ → Type 0) (old new : List (List ℕ)) : Type 0 where
  pub len : length new ≡ length old
  pub each : (t : ℕ) → t < length old → Adds (λ u. Leads old k t × P u) (get_or old t []) (get_or new t [])

-- The new rows have the paths of which the old ones have the steps.
pub record IsClosure (old new : List (List ℕ)) : Type 0 where
  pub are_rows : AreRows (length old) new
  pub only : (u t : ℕ) → Leads new u t → PathAlong (Leads old) u t
  pub all : (u t : ℕ) → t < length old → PathAlong (Leads old) u t → Leads new u t
