-- What is urgent at an identity, by the boxes of a forest.
use Rattle.std.specs.Prelude.{◌≡◌, ℕ, List, MatchOption, Option, Some, false, true}
use Rattle.yw_state.specs.Allowed.{comes_next}
use Rattle.yw_state.specs.Identity.{Ident}
use Rattle.yw_state.specs.State.{RunPart, State, run_part}
use Rattle.yw_tree.specs.Forest.{IsForest, sites_of}
use Rattle.yw_tree.specs.declared.Forest.{Forest}
use Rattle.yw_tree.specs.declared.Run.{Run, out-Run}
use Rattle.yw_idle.specs.Idle.{is_urgent_at}
use Rattle.yw_urgent.specs.Urgent.{FindsAmong, FindsIn}
use Rattle.yw_urgent.specs.declared.here.Urgent.{Urgent}
use Rattle.yw_urgent.specs.declared.here.Urgent.TheVariants as urgents

-- as a state has a run that doesn't wait
abbrev pub at_work : Run → RunPart
at_work run = record { rest = (out-Run run).rest; waiting = false }

-- the check comes next at j; or this run stands there, and doesn't wait
abbrev pub IsHere : State → Ident → Urgent → Type 0
IsHere s j (urgents.Check check) = comes_next s j check ≡ true
IsHere s j (urgents.Run run) = run_part s j ≡ Some (at_work run.now)

-- it does, or nothing is urgent at j
abbrev pub FindsHere : State → Ident → Option Urgent → Type 0
FindsHere s j found = MatchOption found (is_urgent_at s j ≡ false) (IsHere s j)

-- the run is this one, and doesn't wait
abbrev pub IsThisRun : Run → Urgent → Type 0
IsThisRun run (urgents.Check check) = ⊥
IsThisRun run (urgents.Run this) = (this.now ≡ run) × ((out-Run run).waiting ≡ false)

-- it is, or the run waits
abbrev pub FindsRun : Run → Option Urgent → Type 0
FindsRun run found = MatchOption found ((out-Run run).waiting ≡ true) (IsThisRun run)

-- so it is at j in each state whose cases stand in the forest
abbrev pub TellsHere : Forest → Ident → Option Urgent → Type 0
TellsHere f j found = (names : ℕ → List ℕ) (s : State) → IsForest f → s.sites ≡ sites_of names f → FindsHere s j found

-- so it is of these identities
abbrev pub TellsAmong : Forest → List Ident → Option Ident → Type 0
TellsAmong f js found = (names : ℕ → List ℕ) (s : State) → IsForest f → s.sites ≡ sites_of names f → FindsAmong s js found

-- so it is of case n
abbrev pub TellsIn : Forest → ℕ → Option Ident → Type 0
TellsIn f n found = (names : ℕ → List ℕ) (s : State) → IsForest f → s.sites ≡ sites_of names f → FindsIn s n found
