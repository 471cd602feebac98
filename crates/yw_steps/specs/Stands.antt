-- What a state has of a net or an item that a call finds in a forest, and what an event does where there is such a state.
use Rattle.std.specs.Prelude.{◌≡◌, ◌<◌, ℕ, List, Some, length}
use Rattle.yw_base.specs.Identity.{most_numbers}
use Rattle.yw_nest.specs.Does.{Does}
use Rattle.yw_spec.specs.declared.spec.Net.{Net}
use Rattle.yw_spec.specs.declared.spec.Spec.{Spec}
use Rattle.yw_spec.specs.declared.task.Task.{Task}
use Rattle.yw_state.specs.Identity.{Ident}
use Rattle.yw_state.specs.State.{NetAt, State, net_at}
use Rattle.yw_state.specs.declared.event.Event.{Event}
use Rattle.yw_state.specs.declared.part.Checks.{Checks}
use Rattle.yw_task.specs.Due.{AreDue}
use Rattle.yw_task.specs.Items.{AreBefore, NothingFrom, row_of}
use Rattle.yw_tree.specs.Forest.{sites_of}
use Rattle.yw_tree.specs.Places.{net_at as net_found}
use Rattle.yw_tree.specs.declared.Forest.{Forest}
use Rattle.yw_tree.specs.declared.NetState.{NetState}
use Rattle.yw_within.specs.Within.{NetIsWithin}

-- What the event does (`Does`), where a state has the map of the forest old and what the event needs is so there.
abbrev pub DoesWhere : ((ℕ → List ℕ) → Event) → ((ℕ → List ℕ) → State → Type 0) → (State → State) → Forest → Forest → Type 0
DoesWhere event Needs rest old new = (names : ℕ → List ℕ) (s : State) → s.sites ≡ sites_of names old → Needs names s → Does event Needs rest old new

-- ---- a net

-- At i stands this net of its specification, in which each name and each number leads to what is there.
pub record NetIs (s : State) (i : Ident) (net : Net) : Type 0 where
  pub there : NetAt
  pub stands : net_at s i ≡ Some there
  pub same : there.net ≡ net
  pub spec : Spec
  pub within : NetIsWithin spec net

-- A net is found at i, which has a task with number t, and its identity leaves room for one number more.
pub record TaskMayGrow (f : Forest) (net : Net) (i : Ident) (t : ℕ) : Type 0 where
  pub state : NetState
  pub found : net_found f i ≡ Some state
  pub task : t < length net.tasks
  pub room : length i < most_numbers

-- the items of the task with number t in the net at i have numbers below n
abbrev pub ComeBefore : Forest → Ident → ℕ → ℕ → Type 0
ComeBefore f i t n = (state : NetState) → net_found f i ≡ Some state → AreBefore i n (row_of state t)

-- The net is as is said. Numbers are drawn from first on, and nothing stands there at one of them. The checks are those that are due at the
-- items of the task as they come.
pub record MayGetItems (net : Net) (i : Ident) (first : ℕ) (due : Checks) (task : Task) (s : State) : Type 0 where
  pub net_is : NetIs s i net
  pub next : s.next ≡ first
  pub fresh : NothingFrom s.sites i first
  pub due_are : AreDue s i task.name due
