-- What is left where a task's removal set is emptied, and where a task exits.
use Rattle.std.specs.Prelude.{◌≡◌, ℕ, List, Some, fold, slice_get}
use Rattle.yw_expr.specs.Rows.{put_in}
use Rattle.yw_mark.specs.Taking.{OfTask}
use Rattle.yw_spec.specs.declared.spec.Net.{Net}
use Rattle.yw_spec.specs.declared.spec.Place.{Place}
use Rattle.yw_spec.specs.declared.spec.Spec.{Spec}
use Rattle.yw_spec.specs.declared.task.Task.{Task}
use Rattle.yw_state.specs.After.{empty_region, post_at_output, with_sites}
use Rattle.yw_state.specs.Allowed.{Allowed, place_numbers}
use Rattle.yw_state.specs.Events.{after}
use Rattle.yw_state.specs.Identity.{Ident}
use Rattle.yw_state.specs.Passing.{kept_values, split_places}
use Rattle.yw_state.specs.State.{NetAt, State}
use Rattle.yw_state.specs.Texts.{Said}
use Rattle.yw_state.specs.Values.{Row}
use Rattle.yw_state.specs.declared.event.Event.TheVariants as events
use Rattle.yw_task.specs.Making.{rows_made}
use Rattle.yw_task.specs.Standing.{NetStands}
use Rattle.yw_task.specs.declared.exits.Outcome.{Outcome}
use Rattle.yw_tree.specs.Entries.{net_part}
use Rattle.yw_tree.specs.Forest.{IsForest, sites_of}
use Rattle.yw_tree.specs.Places.{placed_net}
use Rattle.yw_tree.specs.Shows.{items_in}
use Rattle.yw_tree.specs.declared.Forest.{Forest}
use Rattle.yw_tree.specs.declared.NetState.{NetState, out-NetState}
use Rattle.yw_tree.specs.declared.Node.{Node}
use Rattle.yw_within.specs.Within.{NetIsWithin}

-- The state t is s with the map of the forest in which the net at i is new, and that forest is well boxed.
pub record HasNet (names : ℕ → List ℕ) (f : Forest) (s t : State) (i : Ident) (new : NetState) : Type 0 where
  pub map : t ≡ with_sites s (sites_of names (placed_net f i new))
  pub kept : IsForest (placed_net f i new)

-- wherever the net stands, the new one has all but the removal set of its task with this number
abbrev pub EmptiesRegion : Net → ℕ → NetState → NetState → Type 0
EmptiesRegion net t old new =
    (names : ℕ → List ℕ) (f : Forest) (s : State) (i : Ident) (task : Task) → NetStands names f s i net old → slice_get net.tasks t ≡ Some task
    → HasNet names f s (empty_region s i task) i new

-- What the exit of the task leaves that has these items, over these values of its net: the values that its assignments leave are the net's with
-- these in their place, and these are the places of its split, decided over them.
pub record IsOutcome (task : Task) (ns : List Node) (vals : Row) (out : Outcome) : Type 0 where
  pub values : fold put_in vals out.puts ≡ kept_values task (rows_made ns) vals
  pub places : out.places ≡ split_places task (kept_values task (rows_made ns) vals)

-- so it is of the task with this number, as the net stands
abbrev pub IsOutcomeAt : Net → ℕ → NetState → Outcome → Type 0
IsOutcomeAt net t state out = OfTask net t (λ task. IsOutcome task (items_in state t) (out-NetState state).vals out)

-- these are the places of the split of the task with this number, decided over the net's values once the assignments are made
abbrev pub SplitsTo : Net → ℕ → NetState → List ℕ → Type 0
SplitsTo net t old numbers =
    (task : Task) → slice_get net.tasks t ≡ Some task
    → numbers ≡ split_places task (kept_values task (rows_made (items_in old t)) (out-NetState old).vals)

-- The exit, which puts a token on each of these places, leads to the state that has the map of the forest with the net new, but for the check
-- of the case after it: that is due then if a token came to the output of the case's own net.
pub record ExitsTo (names : ℕ → List ℕ) (f : Forest) (s : State) (i : Ident) (n : NetAt) (task : Task) (places : List Place) (said : Said) (new : NetState)
    (numbers : List ℕ) : Type 0 where
  pub put : place_numbers n.net places ≡ Some numbers
  pub map : after s (events.Exit i task.name places) said ≡ post_at_output (with_sites s (sites_of names (placed_net f i new))) i n numbers
  pub kept : IsForest (placed_net f i new)

-- wherever the net stands and the exit of its task with this number is allowed
abbrev pub Exits : Net → ℕ → NetState → NetState → List ℕ → Type 0
Exits net t old new numbers =
    (names : ℕ → List ℕ) (f : Forest) (s : State) (i : Ident) (spec : Spec) (task : Task) (places : List Place) (said : Said)
    → NetStands names f s i net old → NetIsWithin spec net → slice_get net.tasks t ≡ Some task → Allowed s (events.Exit i task.name places) said
    → ExitsTo names f s i (record { part = net_part names old; net = net }) task places said new numbers
