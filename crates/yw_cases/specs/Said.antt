-- What loading a text under a name does.
use Rattle.std.specs.Prelude.{Bool, List, false, true, ℕ, ◌≡◌}
use Rattle.yw_standing.specs.Tried.{IsDone, LeadsNowhere}
use Rattle.yw_standing.specs.declared.standing.Standing.{Standing}
use Rattle.yw_state.specs.declared.event.Event.TheVariants as events

-- the event that loads the text under the name led to what is kept now; or it leads nowhere, and nothing has changed
abbrev pub TellsLoaded : Standing → List ℕ → List ℕ → Bool → Standing → Type 0
TellsLoaded old name text true new = IsDone old (events.Load name text) new
TellsLoaded old name text false new = LeadsNowhere old (events.Load name text) × (new ≡ old)
