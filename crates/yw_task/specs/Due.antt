-- What an item of a task is still to be judged by as it comes.
use Rattle.std.specs.Prelude.{◌≡◌, ℕ, List, Some}
use Rattle.yw_state.specs.After.{item_checks}
use Rattle.yw_state.specs.Identity.{Ident}
use Rattle.yw_state.specs.State.{State, TaskAt, task_at}
use Rattle.yw_state.specs.declared.part.Checks.{Checks}

-- these checks are due at each item that comes to the task of this name, in the net at i
abbrev pub AreDue : State → Ident → List ℕ → Checks → Type 0
AreDue s i name due = (x : TaskAt) → task_at s i name ≡ Some x → due ≡ item_checks s x
