-- What is computed to find an event, and that it is right. Our own.
use Rattle.std.specs.Prelude.{◌≡◌, ℕ, Bool, List, Some, false, fold, true}
use Rattle.yw_expr.specs.Rows.{put_in}
use Rattle.yw_mark.specs.Taking.{taken_places}
use Rattle.yw_mark.specs.declared.join.Taken.{Taken}
use Rattle.yw_spec.specs.declared.spec.Place.{Place}
use Rattle.yw_state.specs.Allowed.{exit_values, place_numbers}
use Rattle.yw_state.specs.Identity.{Ident}
use Rattle.yw_state.specs.Passing.{split_places}
use Rattle.yw_state.specs.State.{State, TaskAt, task_at}
use Rattle.yw_state.specs.Values.{Row}
use Rattle.yw_state.specs.declared.event.Event.{Event}
use Rattle.yw_state.specs.declared.event.Event.TheVariants as events
use Rattle.yw_task.specs.Giving.{entry_rows}
use Rattle.yw_task.specs.declared.exits.Outcome.{Outcome}
use Rattle.yw_walk.specs.declared.found.Computed.{Computed}
use Rattle.yw_walk.specs.declared.found.Computed.TheVariants as computed
use Rattle.yw_walk.specs.declared.found.Found.{Found}

abbrev pub plainly : Event → Found
plainly e = record { event = e; computed = computed.Nothing }

-- it is an entry or an exit
abbrev pub is_computed : Event → Bool
is_computed (events.Enter i name places first count) = true
is_computed (events.Exit i name places) = true
is_computed e = false

-- The task of this name in the net at i has this number. Its join takes from these places by this choice, and each of its items is given one of
-- these rows.
pub record EntryTakes (s : State) (i : Ident) (name : List ℕ) (places : List Place) (t : ℕ) (taken : Taken) (rows : List Row) : Type 0 where
  pub of_task : TaskAt
  pub named : task_at s i name ≡ Some of_task
  pub number : of_task.number ≡ t
  pub takes : place_numbers of_task.within.net places ≡ Some (taken_places of_task.within.part.tokens of_task.task.before taken)
  pub gives : rows ≡ entry_rows of_task.task of_task.within.part.vals

abbrev pub IsComputedOfEntry : State → Ident → List ℕ → List Place → Computed → Type 0
IsComputedOfEntry s i name places (computed.Enter t taken rows) = EntryTakes s i name places t taken rows.items
IsComputedOfEntry s i name places c = ⊥

-- The task of this name in the net at i has this number. Its exit leaves this: the values that its assignments leave are the net's with these in
-- their place, and these are the places of its split, decided over them.
pub record ExitLeaves (s : State) (i : Ident) (name : List ℕ) (t : ℕ) (out : Outcome) : Type 0 where
  pub of_task : TaskAt
  pub named : task_at s i name ≡ Some of_task
  pub number : of_task.number ≡ t
  pub values : fold put_in of_task.within.part.vals out.puts ≡ exit_values s i of_task
  pub places : out.places ≡ split_places of_task.task (exit_values s i of_task)

abbrev pub IsComputedOfExit : State → Ident → List ℕ → Computed → Type 0
IsComputedOfExit s i name (computed.Exit t out) = ExitLeaves s i name t out
IsComputedOfExit s i name c = ⊥

-- this was computed of the event: of an entry the choice of its join and what its items are given, of an exit what it leaves, of another nothing
abbrev pub IsComputedOf : State → Event → Computed → Type 0
IsComputedOf s (events.Enter i name places first count) c = IsComputedOfEntry s i name places c
IsComputedOf s (events.Exit i name places) c = IsComputedOfExit s i name c
IsComputedOf s e c = c ≡ computed.Nothing
