-- How many items of a task are done, and what an event changes of it. Our own.
use Rattle.std.specs.Prelude.{◌≡◌, ◌⊎◌, ◌+◌, ◌==◌, ◌&&◌, ◌||◌, ℕ, Bool, true, false, not, cond, [], filter, length, Option, Some, None, is_some}
use Rattle.std.specs.List.{list_any}
use Rattle.yw_idle.specs.Warms.{warms}
use Rattle.yw_plain.specs.Plain.{is_plain_event}
use Rattle.yw_state.specs.Identity.{Ident, case_ident, is_child, same}
use Rattle.yw_state.specs.Options.{is_some_and}
use Rattle.yw_state.specs.State.{State, ItemPart, item_part, items_of, net_part}
use Rattle.yw_state.specs.Words.{done}
use Rattle.yw_state.specs.declared.event.Event.{Event}
use Rattle.yw_state.specs.declared.event.Event.TheVariants as events

-- so many items of task k in the net at i are done
abbrev pub done_in : State → Ident → ℕ → ℕ
done_in s i k = length (filter (λ e. done s e.0 e.1) (items_of s i k))

-- the item that an event of neither a rule tree nor an exlet completes
abbrev pub completed_by : Event → Option Ident
completed_by (events.Complete j out) = Some j
completed_by (events.CompleteSub j) = Some j
completed_by (events.CompleteEmpty j) = Some j
completed_by e = None

-- the item at j is one of task k in the net at i, and is done
abbrev pub is_done_of : State → Ident → ℕ → Ident → Bool
is_done_of t i k j = is_some_and (item_part t j) (λ (x : ItemPart). is_child j i && x.task == k && done t j x)

-- the event before this state completes such an item: at an item of an empty task a run may still hang as it is completed, and then it isn't done
abbrev pub completes_done : State → Event → Ident → ℕ → Bool
completes_done t e i k = is_some_and (completed_by e) (is_done_of t i k)

-- the net at i begins or ends
abbrev pub is_anew : Event → Ident → Bool
is_anew (events.Launch n spec vals) i = same i (case_ident n)
is_anew (events.StartSub j) i = same i j
is_anew (events.CompleteSub j) i = same i j
is_anew e i = false

-- the net of which a task exits
abbrev pub left_by : Event → Option Ident
left_by (events.Exit j t places) = Some j
left_by e = None

abbrev pub is_left : Event → Ident → Bool
is_left e i = is_some_and (left_by e) (same i)

-- what is kept of the net at i goes: it begins or ends by an event of neither a rule tree nor an exlet, or another event warms it
abbrev pub goes : Event → Ident → Bool
goes e i = is_anew e i || (not (is_plain_event e) && list_any (same i) (warms e))

-- The net at i stood before. As many items of each of its tasks are done, or one more where the event completes one that is done; or the task has no item
-- any more, where one of the net exits.
pub record CountsBehind (s t : State) (e : Event) (i : Ident) : Type 0 where
  pub stood : is_some (net_part s i) ≡ true
  pub as_many : (k : ℕ) → (done_in t i k ≡ done_in s i k + cond (completes_done t e i k) 1 0) ⊎ ((is_left e i ≡ true) × (items_of t i k ≡ []))
