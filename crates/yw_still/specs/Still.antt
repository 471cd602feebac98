-- What may come of itself at one identity: tests over what stands there and directly below it, and over whether its case is held or urgent.
-- By these a case is seen to be quiet, identity by identity and task by task. Our own.
use Rattle.std.specs.Prelude.{◌≡◌, ℕ, ◌+◌, ◌&&◌, ◌||◌, Bool, true, false, not, List, length, Option, Some, is_some, option_and_then, nat_le, IsTrue}
use Rattle.std.specs.List.{list_all}
use Rattle.yw_base.specs.Gates.{is_or}
use Rattle.yw_base.specs.Identity.{number_end, case_number}
use Rattle.yw_state.specs.Allowed.{exit_values, has_room_for, may_leave}
use Rattle.yw_state.specs.Automatic.{Comes}
use Rattle.yw_state.specs.Identity.{Ident, is_case_ident}
use Rattle.yw_state.specs.Joins.{Waits, at_output, has_tokens}
use Rattle.yw_state.specs.Judged.{is_manual}
use Rattle.yw_state.specs.Nets.{child_net, is_atomic, is_empty}
use Rattle.yw_state.specs.Options.{is_some_and}
use Rattle.yw_state.specs.Passing.{entry_values, split_places, within_bounds}
use Rattle.yw_state.specs.State.{State, Site, ItemAt, RunPart, TaskAt, due_at, item_at, net_at, run_part, task_in}
use Rattle.yw_state.specs.Values.{Row}
use Rattle.yw_state.specs.Well.{Stands}
use Rattle.yw_state.specs.Words.{active, any_due, busy, clear, is_at_work, is_executing, is_ready, urgent}
use Rattle.yw_state.specs.declared.event.Event.{Event}

-- ---- checks and runs

-- a check is due, and nothing is at work there
abbrev pub check_waits : State → Ident → Bool
check_waits s j = any_due (due_at s j) && not (busy s j)

-- a run has a primitive to take
abbrev pub run_is_at_work : State → Ident → Bool
run_is_at_work s r = is_at_work (run_part s r)

-- the compensation of a run is at its end
abbrev pub compensation_ends : State → Ident → Bool
compensation_ends s r = is_some_and (run_part s r) (λ (x : RunPart). x.waiting) && at_output s r && not (urgent s (case_number r))

-- ---- items and cases

-- an empty task's item, or one whose child net may begin
abbrev pub item_begins : State → Ident → ItemAt → Bool
item_begins s j x = is_ready x.part.stage && (is_empty x.of_task.task || is_some (child_net x.of_task.task) && not (busy s j))

-- an item whose child net or worklet is at its end
abbrev pub item_ends : State → Ident → ItemAt → Bool
item_ends s j x = is_executing x.part.stage && (is_some (child_net x.of_task.task) || is_atomic x.of_task.task) && not (busy s j) && at_output s j

-- an item goes on without a person
abbrev pub item_goes_on : State → Ident → Bool
item_goes_on s j = clear s j && is_some_and (item_at s j) (λ x. item_begins s j x || item_ends s j x)

-- a case is at its end
abbrev pub case_ends : State → Ident → Bool
case_ends s j = is_case_ident j && clear s j && not (busy s j) && at_output s j

-- ---- tasks

-- task k of the net at i
abbrev pub task_numbered : State → Ident → ℕ → Option TaskAt
task_numbered s i k = option_and_then (λ n. task_in n k) (net_at s i)

-- the task may be left
abbrev pub is_leaving : State → Ident → TaskAt → Bool
is_leaving s i x = clear s i && active s i x.number && may_leave s i x && list_all (has_room_for s i x) (split_places x.task (exit_values s i x))

-- as many items as the task may have, for which numbers are left
abbrev pub may_be_made : State → TaskAt → List Row → Bool
may_be_made s x rows = within_bounds x.task.many (length rows) && nat_le (s.next + length rows) number_end

-- the task may be entered, whoever does it, but for an OR-join's wait
abbrev pub can_be_entered : State → Ident → TaskAt → Bool
can_be_entered s i x =
    clear s i && not (active s i x.number) && has_tokens x.task.join s i x.task.before
    && is_some_and (entry_values x.task x.within.part.vals) (may_be_made s x)

-- and no person does it
abbrev pub is_entering : State → Ident → TaskAt → Bool
is_entering s i x = not (is_manual s x) && can_be_entered s i x

-- ---- still

-- Nothing comes of itself at j. A task that may be entered otherwise has an OR-join that waits.
pub record IsStill (s : State) (j : Ident) : Type 0 where
  pub check : check_waits s j ≡ false
  pub run : run_is_at_work s j ≡ false
  pub compensation : compensation_ends s j ≡ false
  pub item : item_goes_on s j ≡ false
  pub case : case_ends s j ≡ false
  pub left : (k : ℕ) (x : TaskAt) → task_numbered s j k ≡ Some x → is_leaving s j x ≡ false
  pub entered : (k : ℕ) (x : TaskAt) → task_numbered s j k ≡ Some x → is_entering s j x ≡ true → IsTrue (is_or x.task.join) × Waits s j x

-- each identity that stands in case n is still
abbrev pub CaseIsStill : State → ℕ → Type 0
CaseIsStill s n = (j : Ident) (x : Site) → Stands s j x → case_number j ≡ n → IsStill s j

-- something comes of itself in case n
abbrev pub SomethingComes : State → ℕ → Type 0
SomethingComes s n = (e : Event) × Comes s n e
