-- States without worklets: each that is reached until worklets are built. Our own.
use Rattle.std.specs.Prelude.{◌≡◌, true, Some, is_some}
use Rattle.yw_state.specs.Identity.{Ident}
use Rattle.yw_state.specs.Nets.{is_atomic}
use Rattle.yw_state.specs.State.{State, ItemAt, item_at}
use Rattle.yw_state.specs.Words.{is_executing}

-- An executing item of an atomic task was started by somebody: no worklet stands for it.
pub record HasNoWorklet (s : State) : Type 0 where
  pub started : (j : Ident) (x : ItemAt)
      → item_at s j ≡ Some x → is_atomic x.of_task.task ≡ true → is_executing x.part.stage ≡ true → is_some x.part.who ≡ true
