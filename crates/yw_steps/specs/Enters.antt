-- What an entry does to the forest.
use Rattle.std.specs.Prelude.{◌≡◌, ◌+◌, ℕ, List, Some, slice_get}
use Rattle.yw_mark.specs.Taking.{taken_places}
use Rattle.yw_mark.specs.declared.join.Taken.{Taken}
use Rattle.yw_spec.specs.declared.spec.Net.{Net}
use Rattle.yw_spec.specs.declared.spec.Place.{Place}
use Rattle.yw_spec.specs.declared.task.Task.{Task}
use Rattle.yw_state.specs.After.{with_next}
use Rattle.yw_state.specs.Allowed.{place_numbers}
use Rattle.yw_state.specs.Identity.{Ident}
use Rattle.yw_state.specs.declared.event.Event.TheVariants as events
use Rattle.yw_state.specs.declared.part.Checks.{Checks}
use Rattle.yw_steps.specs.Stands.{DoesWhere, MayGetItems}
use Rattle.yw_state.specs.Values.{Row}
use Rattle.yw_task.specs.Enters.{AreEntryRows, MayCome}
use Rattle.yw_tree.specs.Places.{net_at}
use Rattle.yw_tree.specs.declared.Forest.{Forest}
use Rattle.yw_tree.specs.declared.NetState.{NetState, out-NetState}

-- These are the places of the net at i for which the choice of the task's join stands.
pub record StandsFor (f : Forest) (i : Ident) (net : Net) (task : Task) (taken : Taken) (places : List Place) : Type 0 where
  pub state : NetState
  pub found : net_at f i ≡ Some state
  pub numbers : place_numbers net places ≡ Some (taken_places (out-NetState state).marks task.before taken)

-- the task with number t is entered from these places, and so many items come, numbered from first on
abbrev pub Enters : Net → Ident → ℕ → Taken → ℕ → Checks → Forest → Forest → ℕ → Type 0
Enters net i t taken first due old new count =
    (task : Task) (places : List Place) → slice_get net.tasks t ≡ Some task → StandsFor old i net task taken places
    → DoesWhere (λ names. events.Enter i task.name places first count) (λ names. MayGetItems net i first due task) (λ s. with_next s (first + count))
    old new

-- what is so of the net at i where nothing is tested
abbrev pub MayComeAt : Forest → Net → Ident → ℕ → ℕ → Type 0
MayComeAt f net i t first = (state : NetState) → net_at f i ≡ Some state → MayCome net state t first

-- an entry gives its items these rows, in the net at i
abbrev pub AreEntryRowsAt : Forest → Net → Ident → ℕ → List Row → Type 0
AreEntryRowsAt f net i t rows = (state : NetState) → net_at f i ≡ Some state → AreEntryRows net state t rows
