-- When a task may be entered, and from where its join takes.
use Rattle.std.specs.Prelude.{◌≡◌, ◌<◌, ◌⊎◌, ℕ, ◌+◌, ◌&&◌, Bool, true, false, List, Option, Some, None, Vec, length, nat_le, not, slice_get, unwrap_or, IsTrue}
use Rattle.std.specs.declared.alloc.Global.{Global}
use Rattle.yw_base.specs.Gates.{is_or}
use Rattle.yw_base.specs.Identity.{number_end}
use Rattle.yw_mark.specs.Taking.{OfTask, taken_places}
use Rattle.yw_mark.specs.declared.join.Taken.{Taken}
use Rattle.yw_spec.specs.declared.spec.Net.{Net}
use Rattle.yw_spec.specs.declared.task.Task.{Task}
use Rattle.yw_state.specs.Identity.{Ident}
use Rattle.yw_state.specs.Joins.{NoWait, Waits, joins}
use Rattle.yw_state.specs.Nets.{is_atomic}
use Rattle.yw_state.specs.Options.{is_some_and}
use Rattle.yw_state.specs.Passing.{entry_values, within_bounds}
use Rattle.yw_state.specs.State.{State, TaskAt}
use Rattle.yw_state.specs.Values.{Row}
use Rattle.yw_enabled.specs.Free.{MayDraw}
use Rattle.yw_enabled.specs.declared.entered.Entering.{Entering}
use Rattle.yw_still.specs.Still.{can_be_entered, task_numbered}
use Rattle.yw_task.specs.Giving.{entry_rows}
use Rattle.yw_tree.specs.declared.Forest.{Forest}
use Rattle.yw_tree.specs.declared.NetState.{NetState, out-NetState}

-- ---- by the task and the values of its net

-- what items are given is defined, and so many may be made, numbered from first on
abbrev pub may_be_made : Task → Row → ℕ → Bool
may_be_made task vals first =
    is_some_and (entry_values task vals) (λ rows. within_bounds task.many (length rows) && nat_le (first + length rows) number_end)

-- These are the rows that items are given, and so many may be made, numbered from first on.
pub record AreMade (task : Task) (vals : Row) (first : ℕ) (rows : List Row) : Type 0 where
  pub made : may_be_made task vals first ≡ true
  pub gives : rows ≡ entry_rows task vals

-- so they are, or none may be made
abbrev pub MakesRows : Task → Row → ℕ → Option (Vec Row Global) → Type 0
MakesRows task vals first None = may_be_made task vals first ≡ false
MakesRows task vals first (Some rows) = AreMade task vals first rows.items

-- ---- by the definitions

-- The task may be entered, and its join takes from these places.
pub record EntersFrom (s : State) (i : Ident) (x : TaskAt) (cs : List ℕ) : Type 0 where
  pub may : can_be_entered s i x ≡ true
  pub no_wait : NoWait s i x
  pub takes : joins x.task.join s i x.task.before cs ≡ true

-- wherever the net stands free and this number is drawn next, its task with number t may be entered by this choice of its join
abbrev pub MayEnter : Net → NetState → ℕ → ℕ → Taken → Type 0
MayEnter net state t first taken =
    (names : ℕ → List ℕ) (f : Forest) (s : State) (i : Ident) (x : TaskAt)
    → MayDraw names f s i net state first → task_numbered s i t ≡ Some x → EntersFrom s i x (taken_places (out-NetState state).marks x.task.before taken)

-- It may be entered so, and its items are given these rows.
pub record EntersWith (net : Net) (state : NetState) (t first : ℕ) (x : Entering) : Type 0 where
  pub enters : MayEnter net state t first x.taken
  pub gives : OfTask net t (λ task. x.rows.items ≡ entry_rows task (out-NetState state).vals)

-- there it may not be entered, or it is an OR-join that waits
abbrev pub MayNotEnter : Net → NetState → ℕ → ℕ → Type 0
MayNotEnter net state t first =
    (names : ℕ → List ℕ) (f : Forest) (s : State) (i : Ident) (x : TaskAt)
    → MayDraw names f s i net state first → task_numbered s i t ≡ Some x → can_be_entered s i x ≡ true → IsTrue (is_or x.task.join) × Waits s i x

-- ---- by nobody

-- a tree chooses worklets for task t, by a list that tells it of each task; of a task that the list hasn't none does
abbrev pub is_chosen : List Bool → ℕ → Bool
is_chosen chosen t = unwrap_or (slice_get chosen t) false

-- persons enter the task: it is atomic, and no tree chooses worklets for it
abbrev pub is_manual : Task → Bool → Bool
is_manual task chosen = is_atomic task && not chosen

-- persons enter the task, or it may not be entered
abbrev pub StaysOut : Net → NetState → ℕ → List Bool → ℕ → Type 0
StaysOut net state first chosen t = OfTask net t (λ task. is_manual task (is_chosen chosen t) ≡ true) ⊎ MayNotEnter net state t first

-- Persons don't enter the task, and it may be entered so.
pub record ComesIn (net : Net) (state : NetState) (first : ℕ) (chosen : List Bool) (t : ℕ) (x : Entering) : Type 0 where
  pub kind : OfTask net t (λ task. is_manual task (is_chosen chosen t) ≡ false)
  pub entering : EntersWith net state t first x

-- Of the tasks that persons don't enter it is the first that may be entered.
pub record ComesFirst (net : Net) (state : NetState) (first : ℕ) (chosen : List Bool) (p : ℕ × Entering) : Type 0 where
  pub below : p.0 < length net.tasks
  pub comes : ComesIn net state first chosen p.0 p.1
  pub earlier : (k : ℕ) → k < p.0 → StaysOut net state first chosen k

-- so it is, with what its entry takes and gives; or none may be entered
abbrev pub EntersFirst : Net → NetState → ℕ → List Bool → Option (ℕ × Entering) → Type 0
EntersFirst net state first chosen (Some p) = ComesFirst net state first chosen p
EntersFirst net state first chosen None = (k : ℕ) → k < length net.tasks → StaysOut net state first chosen k
