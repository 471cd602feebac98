-- Exits with which no open work goes. Our own.
use Rattle.std.specs.Prelude.{◌==◌, ◌&&◌, Bool, length}
use Rattle.std.specs.List.{list_all}
use Rattle.yw_state.specs.Identity.{Ident}
use Rattle.yw_state.specs.State.{State, TaskAt, items_of}
use Rattle.yw_state.specs.Words.{done}

-- the removal set of the task in the net at i names no task, and all its items are done
abbrev pub exits_done : State → Ident → TaskAt → Bool
exits_done s i x = length x.task.drop_tasks == 0 && list_all (λ e. done s e.0 e.1) (items_of s i x.number)
