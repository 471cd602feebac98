-- When a task may be left, read off its list of items and the tokens of its net.
use Rattle.std.specs.Prelude.{◌≡◌, ◌<◌, ℕ, ◌&&◌, ◌||◌, Bool, true, false, not, IfSome, List, MatchOption, Option, Some, None, count_by, is_some, length, min, nat_le, nat_lt, option_and_then, option_map, slice_get, unwrap_or}
use Rattle.std.specs.List.{list_all}
use Rattle.yw_spec.specs.declared.spec.Net.{Net}
use Rattle.yw_spec.specs.declared.task.Many.{Many}
use Rattle.yw_spec.specs.declared.task.Task.{Task}
use Rattle.yw_state.specs.After.{count_on}
use Rattle.yw_state.specs.Allowed.{most_tokens}
use Rattle.yw_state.specs.Identity.{Ident}
use Rattle.yw_state.specs.Nets.{is_among}
use Rattle.yw_state.specs.Passing.{kept_values, split_places}
use Rattle.yw_state.specs.State.{State, TaskAt}
use Rattle.yw_state.specs.Words.{is_completed}
use Rattle.yw_enabled.specs.Free.{StandsFree}
use Rattle.yw_still.specs.Still.{is_leaving, task_numbered}
use Rattle.yw_task.specs.Leaving.{IsOutcome, IsOutcomeAt}
use Rattle.yw_task.specs.Making.{rows_made}
use Rattle.yw_task.specs.declared.exits.Outcome.{Outcome}
use Rattle.yw_tree.specs.Shows.{items_in}
use Rattle.yw_tree.specs.declared.Forest.{Forest}
use Rattle.yw_tree.specs.declared.NetState.{NetState, out-NetState}
use Rattle.yw_tree.specs.declared.Node.{Node, out-Node}

-- ---- by the boxes

-- it counts where its task exits: it is completed, no run hangs at it, and it isn't suspended
unfoldable pub is_done : Node → Bool
is_done n = is_completed (out-Node n).stage && not (is_some (out-Node n).run) && not (out-Node n).suspended

abbrev pub done_count : List Node → ℕ
done_count ns = count_by is_done ns

-- how many of n items have to count: all of them, or as many as the threshold, where that is less
abbrev pub needed : Task → ℕ → ℕ
needed task n = unwrap_or (option_map (λ (m : Many). min n m.threshold) task.many) n

-- how many of them count: as it is told, or else as they are asked
abbrev pub told_or_asked : Option ℕ → List Node → ℕ
told_or_asked told ns = unwrap_or told (done_count ns)

-- what is told of them is right
abbrev pub TellsRight : Option ℕ → List Node → Type 0
TellsRight told ns = IfSome told (λ d. d ≡ done_count ns)

-- there are items, and as many are done as have to be
abbrev pub are_enough : Task → List Node → Option ℕ → Bool
are_enough task ns told = nat_lt 0 (length ns) && nat_le (needed task (length ns)) (told_or_asked told ns)

-- what is told of task t, by how many items are done of each
abbrev pub told_of : Option (List ℕ) → ℕ → Option ℕ
told_of told t = option_and_then (λ ds. slice_get ds t) told

-- what is told of each task of a net is right
abbrev pub TellsNet : NetState → Option (List ℕ) → Type 0
TellsNet state told = (t : ℕ) → TellsRight (told_of told t) (items_in state t)

-- one token more is not too many, once the removal set is emptied
abbrev pub has_room : List ℕ → Task → ℕ → Bool
has_room marks task c = is_among task.drop_places c || nat_lt (count_on marks c) most_tokens

-- there is room on each place of the split
abbrev pub split_has_room : NetState → Task → List Node → Bool
split_has_room state task ns =
    list_all (has_room (out-NetState state).marks task) (split_places task (kept_values task (rows_made ns) (out-NetState state).vals))

-- The exit of the task leaves this, and there is room on each place of its split.
pub record HasRoom (state : NetState) (task : Task) (ns : List Node) (out : Outcome) : Type 0 where
  pub outcome : IsOutcome task ns (out-NetState state).vals out
  pub room : split_has_room state task ns ≡ true

-- so it does, or there isn't room on each
abbrev pub FindsRoom : NetState → Task → List Node → Option Outcome → Type 0
FindsRoom state task ns found = MatchOption found (split_has_room state task ns ≡ false) (HasRoom state task ns)

abbrev pub leaves_by : NetState → ℕ → Task → Bool
leaves_by state t task = are_enough task (items_in state t) None && split_has_room state task (items_in state t)

-- ---- by the definitions

-- wherever the net stands free, the answer is whether its task with this number may be left
abbrev pub IsLeavingAs : Net → NetState → ℕ → Bool → Type 0
IsLeavingAs net state t answer =
    (names : ℕ → List ℕ) (f : Forest) (s : State) (i : Ident) (x : TaskAt)
    → StandsFree names f s i net state → task_numbered s i t ≡ Some x → is_leaving s i x ≡ answer

-- The task with this number may be left, and its exit leaves this.
pub record LeavesWith (net : Net) (state : NetState) (t : ℕ) (out : Outcome) : Type 0 where
  pub leaves : IsLeavingAs net state t true
  pub outcome : IsOutcomeAt net t state out

-- so it may, or it may not be left
abbrev pub LeavesAs : Net → NetState → ℕ → Option Outcome → Type 0
LeavesAs net state t found = MatchOption found (IsLeavingAs net state t false) (LeavesWith net state t)

-- it is of a task of the net
abbrev pub IsOfTask : Net → ℕ × Outcome → Type 0
IsOfTask net p = p.0 < length net.tasks

-- The task with this number may be left, and none before it; its exit leaves this.
pub record LeavesAt (net : Net) (state : NetState) (p : ℕ × Outcome) : Type 0 where
  pub below : p.0 < length net.tasks
  pub leaves : LeavesWith net state p.0 p.1
  pub first : (k : ℕ) → k < p.0 → IsLeavingAs net state k false

-- the first task that may be left, with what its exit leaves, or none where none may
abbrev pub LeavesFirst : Net → NetState → Option (ℕ × Outcome) → Type 0
LeavesFirst net state (Some p) = LeavesAt net state p
LeavesFirst net state None = (k : ℕ) → k < length net.tasks → IsLeavingAs net state k false
