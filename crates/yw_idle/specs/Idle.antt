-- What nothing may move at one identity, whether or not work is held there and whether or not its case is urgent. So what is idle stays idle
-- where that alone changes. Our own.
use Rattle.std.specs.Prelude.{◌≡◌, ◌⊎◌, ℕ, ◌&&◌, ◌||◌, Bool, true, false, not, Some, IsTrue}
use Rattle.std.specs.List.{list_all}
use Rattle.yw_base.specs.Gates.{is_or}
use Rattle.yw_state.specs.Allowed.{exit_values, has_room_for, may_leave}
use Rattle.yw_state.specs.Identity.{Ident, is_case_ident}
use Rattle.yw_base.specs.Identity.{case_number}
use Rattle.yw_state.specs.Joins.{Waits, at_output, has_tokens}
use Rattle.yw_state.specs.Judged.{is_manual}
use Rattle.yw_state.specs.Map.{get}
use Rattle.yw_state.specs.Options.{is_some_and}
use Rattle.yw_state.specs.Passing.{entry_values, split_places}
use Rattle.yw_state.specs.State.{State, Site, RunPart, TaskAt, item_at, run_part}
use Rattle.yw_state.specs.Well.{Stands}
use Rattle.yw_state.specs.Words.{active, busy, held}
use Rattle.yw_idle.specs.Looked.{SeesSame}
use Rattle.yw_still.specs.Still.{check_waits, item_begins, item_ends, may_be_made, run_is_at_work, task_numbered}

-- ---- urgent

-- a check is due that isn't held up by a run, or a run doesn't wait
abbrev pub is_urgent_at : State → Ident → Bool
is_urgent_at s j = check_waits s j || run_is_at_work s j

-- nothing in case n is urgent
abbrev pub NoneUrgent : State → ℕ → Type 0
NoneUrgent s n = (j : Ident) (x : Site) → Stands s j x → case_number j ≡ n → is_urgent_at s j ≡ false

-- ---- idle

abbrev pub compensation_would_end : State → Ident → Bool
compensation_would_end s r = is_some_and (run_part s r) (λ (x : RunPart). x.waiting) && at_output s r

abbrev pub item_would_go_on : State → Ident → Bool
item_would_go_on s j = is_some_and (item_at s j) (λ x. item_begins s j x || item_ends s j x)

abbrev pub case_would_end : State → Ident → Bool
case_would_end s j = is_case_ident j && not (busy s j) && at_output s j

abbrev pub would_leave : State → Ident → TaskAt → Bool
would_leave s i x = active s i x.number && may_leave s i x && list_all (has_room_for s i x) (split_places x.task (exit_values s i x))

abbrev pub would_enter : State → Ident → TaskAt → Bool
would_enter s i x =
    not (is_manual s x)
    && (not (active s i x.number) && has_tokens x.task.join s i x.task.before
    && is_some_and (entry_values x.task x.within.part.vals) (may_be_made s x))

-- Nothing comes of itself at j, even where nothing is held or urgent, but for what is urgent itself.
pub record IsIdle (s : State) (j : Ident) : Type 0 where
  pub compensation : compensation_would_end s j ≡ false
  pub item : item_would_go_on s j ≡ false
  pub case : case_would_end s j ≡ false
  pub left : (k : ℕ) (x : TaskAt) → task_numbered s j k ≡ Some x → would_leave s j x ≡ false
  pub entered : (k : ℕ) (x : TaskAt) → task_numbered s j k ≡ Some x → would_enter s j x ≡ true → IsTrue (is_or x.task.join) × Waits s j x

-- Work is held there, and no compensation is at its end, which nothing holds.
pub record IsParked (s : State) (j : Ident) : Type 0 where
  pub held : held s j ≡ true
  pub compensation : compensation_would_end s j ≡ false

-- at each identity in case n nothing is to be done before nothing is urgent and work is held no longer
abbrev pub RestsAll : State → ℕ → Type 0
RestsAll s n = (j : Ident) (x : Site) → Stands s j x → case_number j ≡ n → IsIdle s j ⊎ IsParked s j

-- What stands at j stood there before, and is idle if it was; all that is looked at for that is as it was.
pub record StaysIdle (s t : State) (j : Ident) : Type 0 where
  pub stood : (y : Site) × Stands s j y
  pub site : get t.sites j ≡ get s.sites j
  pub idle : IsIdle s j → IsIdle t j
  pub compensation : compensation_would_end t j ≡ compensation_would_end s j
  pub sees : SeesSame s t j
