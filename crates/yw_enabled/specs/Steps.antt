-- Which events an entry by a choice of the join, and an exit, stand for.
use Rattle.std.specs.Prelude.{◌≡◌, ℕ, List, Some, length}
use Rattle.yw_mark.specs.Taking.{taken_places}
use Rattle.yw_mark.specs.declared.join.Taken.{Taken}
use Rattle.yw_spec.specs.declared.spec.Place.{Place}
use Rattle.yw_state.specs.Allowed.{Allowed, exit_values, place_numbers}
use Rattle.yw_state.specs.Automatic.{Comes}
use Rattle.yw_state.specs.Identity.{Ident}
use Rattle.yw_state.specs.Passing.{split_places}
use Rattle.yw_state.specs.State.{State, TaskAt}
use Rattle.yw_state.specs.Texts.{nothing}
use Rattle.yw_state.specs.declared.event.Event.TheVariants as events
use Rattle.yw_still.specs.Still.{task_numbered}
use Rattle.yw_task.specs.Giving.{entry_rows}

-- The task may be entered in the net at i: from the places of this choice, with an item for each row that the entry makes, numbered from the
-- counter on.
pub record MayCome (s : State) (i : Ident) (x : TaskAt) (taken : Taken) : Type 0 where
  pub places : List Place
  pub takes : place_numbers x.within.net places ≡ Some (taken_places x.within.part.tokens x.task.before taken)
  pub allowed : Allowed s (events.Enter i x.task.name places s.next (length (entry_rows x.task x.within.part.vals))) nothing

-- The task with this number in the net at i is entered of itself in case n: from the places of this choice, with an item for each row that the
-- entry makes, numbered from the counter on.
pub record EnterComes (s : State) (n : ℕ) (i : Ident) (t : ℕ) (taken : Taken) : Type 0 where
  pub of_task : TaskAt
  pub numbered : task_numbered s i t ≡ Some of_task
  pub places : List Place
  pub takes : place_numbers of_task.within.net places ≡ Some (taken_places of_task.within.part.tokens of_task.task.before taken)
  pub comes : Comes s n (events.Enter i of_task.task.name places s.next (length (entry_rows of_task.task of_task.within.part.vals)))

-- The task with this number in the net at i is left of itself in case n: to the places of its split.
pub record ExitComes (s : State) (n : ℕ) (i : Ident) (t : ℕ) : Type 0 where
  pub of_task : TaskAt
  pub numbered : task_numbered s i t ≡ Some of_task
  pub places : List Place
  pub puts : place_numbers of_task.within.net places ≡ Some (split_places of_task.task (exit_values s i of_task))
  pub comes : Comes s n (events.Exit i of_task.task.name places)
