-- The rows of places, behind those of tasks.
use Rattle.std.specs.Prelude.{◌≡◌, ℕ, ◌<◌, ◌≤◌, List, [], Contains, get_or, length}
use Rattle.yw_path.specs.Bits.{Has, words_for}
use Rattle.yw_path.specs.Rows.{Leads}

-- The set has exactly what is in the row of a task of which P holds.
pub record IsUnion (count : ℕ) (P : ℕ → Type 0) (rows : List (List ℕ)) (row : List ℕ) : Type 0 where
  pub len : length row ≡ words_for count
  pub only : (u : ℕ) → Has row u → (t : ℕ) × P t × Leads rows u t
  pub all : (u t : ℕ) → P t → Leads rows u t → Has row u

-- The row with this number has exactly what is in the row of one of these tasks, and the rows from before stay.
pub record HasRow (tasks : List ℕ) (old new : List (List ℕ)) (number : ℕ) : Type 0 where
  pub longer : length old ≤ length new
  pub stay : (t : ℕ) → t < length old → get_or new t [] ≡ get_or old t []
  pub within : number < length new
  pub only : (u : ℕ) → Leads new u number → (t : ℕ) × Contains tasks t × Leads old u t
  pub all : (u t : ℕ) → Contains tasks t → Leads old u t → Leads new u number

-- So has each of the first n places, whose tasks are listed, and the rows from before stay.
pub record HaveRows (n : ℕ) (into : List (List ℕ)) (old new : List (List ℕ)) (numbers : List ℕ) : Type 0 where
  pub len : length numbers ≡ n
  pub longer : length old ≤ length new
  pub stay : (t : ℕ) → t < length old → get_or new t [] ≡ get_or old t []
  pub within : (c : ℕ) → c < n → get_or numbers c 0 < length new
  pub only : (c u : ℕ) → c < n → Leads new u (get_or numbers c 0) → (t : ℕ) × Contains (get_or into c []) t × Leads old u t
  pub all : (c u t : ℕ) → c < n → Contains (get_or into c []) t → Leads old u t → Leads new u (get_or numbers c 0)
