-- What comes of itself in a case, one event after another, until the case is quiet or the budget is spent. Our own.
use Rattle.std.specs.Prelude.{◌≡◌, ◌≤◌, ◌↔◌, ℕ, List, length, Bool, false, IsTrue}
use Rattle.yw_state.specs.Automatic.{ComeAll, IsQuiet, after_each}
use Rattle.yw_state.specs.Legal.{IsLegal, budget}
use Rattle.yw_state.specs.State.{State}
use Rattle.yw_state.specs.Texts.{Reader}
use Rattle.yw_state.specs.declared.command.Command.{Command}
use Rattle.yw_state.specs.declared.event.Event.{Event}

-- The events come of themselves in case n in their turn, and lead from s to t. The case is quiet then, or not, and where it isn't the budget is
-- spent.
pub record RunsOut (s : State) (n : ℕ) (events : List Event) (quiet : Bool) (t : State) : Type 0 where
  pub come : ComeAll s n events
  pub then : t ≡ after_each s events
  pub within : length events ≤ budget
  pub is_quiet : IsTrue quiet ↔ IsQuiet t n
  pub spent : quiet ≡ false → length events ≡ budget

-- events lead from s to where case n is quiet or the budget is spent
abbrev pub HasTurns : State → ℕ → Type 0
HasTurns s n = (events : List Event) × (quiet : Bool) × (t : State) × RunsOut s n events quiet t

-- an entry may answer the command
abbrev pub HasEntry : Reader → State → Command → Type 0
HasEntry reader s c = (entry : List Event) × (quiet : Bool) × (t : State) × IsLegal reader s c entry quiet t
