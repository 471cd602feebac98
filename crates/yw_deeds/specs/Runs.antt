-- What a run has to do, and what its primitive wants of all that is kept.
use Rattle.std.specs.Borrow.{Bor}
use Rattle.std.specs.Prelude.{◌≡◌, ◌&&◌, ◌==◌, Bool, List, [], MatchOption, None, Option, Some, not, ℕ}
use Rattle.std.specs.Str.{bytes_eq}
use Rattle.yw_base.specs.Identity.{case_number}
use Rattle.yw_exlet.specs.declared.first.Outcome.{Outcome}
use Rattle.yw_library.specs.Ended.{ended_of}
use Rattle.yw_library.specs.Holdings.{Holdings, IsKept}
use Rattle.yw_library.specs.Holdings as library
use Rattle.yw_spec.specs.declared.spec.Net.{Net}
use Rattle.yw_spec.specs.declared.spec.Spec.{Spec}
use Rattle.yw_spec.specs.declared.task.Task.{Task}
use Rattle.yw_state.specs.Allowed.{is_first}
use Rattle.yw_state.specs.Identity.{Ident}
use Rattle.yw_state.specs.Joins.{at_output}
use Rattle.yw_state.specs.Judged.{has_rules, task_place}
use Rattle.yw_state.specs.Map.{get, insert}
use Rattle.yw_state.specs.Nets.{is_atomic}
use Rattle.yw_state.specs.Options.{is_some_and}
use Rattle.yw_state.specs.State.{ItemAt, NetAt, RunPart, State, item_at, run_part}
use Rattle.yw_state.specs.Words.{urgent}
use Rattle.yw_state.specs.declared.part.Checks.{Checks}
use Rattle.yw_state.specs.declared.part.Way.{Way}
use Rattle.yw_state.specs.declared.part.Way.TheVariants.{Removed}
use Rattle.yw_state.specs.declared.tree.Primitive.{Primitive}
use Rattle.yw_state.specs.declared.tree.Primitive.TheVariants as primitives
use Rattle.yw_state.specs.declared.tree.TreeKind.TheVariants.{Select}
use Rattle.yw_tree.specs.declared.Run.{Run, out-Run}

-- ---- primitives that are the same

-- the number of its kind
abbrev pub kind_of : Primitive → ℕ
kind_of primitives.SuspendItem = 0
kind_of primitives.ContinueItem = 1
kind_of primitives.RestartItem = 2
kind_of primitives.CompleteItem = 3
kind_of primitives.RemoveItem = 4
kind_of primitives.SuspendCase = 5
kind_of primitives.ContinueCase = 6
kind_of primitives.RemoveCase = 7
kind_of (primitives.Compensate name) = 8
kind_of (primitives.Unknown text) = 9

-- the text that it has
abbrev pub text_of : Primitive → List ℕ
text_of (primitives.Compensate name) = name
text_of (primitives.Unknown text) = text
text_of p = []

-- both are the same
abbrev pub is_same : Primitive → Primitive → Bool
is_same p q = kind_of p == kind_of q && bytes_eq (text_of p) (text_of q)

-- ---- a run

-- as a state has it
abbrev pub run_part_of : Run → RunPart
run_part_of k = record { rest = (out-Run k).rest; waiting = (out-Run k).waiting }

-- it doesn't wait, and has this to do first
abbrev pub takes_next : Primitive → RunPart → Bool
takes_next p x = not x.waiting && is_first p x.rest

abbrev pub waits : RunPart → Bool
waits x = x.waiting

-- the run at r waits for its compensation, which is at its end, and nothing is urgent in the case
abbrev pub is_compensated : State → Ident → Bool
is_compensated s r = is_some_and (run_part s r) waits && at_output s r && not (urgent s (case_number r))

-- ---- the specification that a primitive names

abbrev pub named_in : Primitive → Option (List ℕ)
named_in (primitives.Compensate name) = Some name
named_in p = None

-- it is the one of this name with its number, or none of the name is loaded
abbrev pub IsOfName : Holdings → Option (List ℕ) → Option (Bor Spec × ℕ) → Type 0
IsOfName known None found = found ≡ None
IsOfName known (Some name) found = MatchOption found (get (library.state_of known).specs name ≡ None) (λ e. IsKept known name e.0.now e.1)

-- ---- what stands at an identity

abbrev pub its_task : ItemAt → Task
its_task x = x.of_task.task

abbrev pub its_net : NetAt → Net
its_net n = n.net

-- where the item at j begins anew, a worklet may be chosen for it exactly where its task is atomic and has a rule for that
abbrev pub IsDueAnew : State → Ident → Checks → Type 0
IsDueAnew s j due = (x : ItemAt) → item_at s j ≡ Some x → due.select ≡ (is_atomic x.of_task.task && has_rules s (task_place x.of_task Select))

-- ---- cases that are over

-- a case that a primitive removes is one more of them
abbrev pub Notes : Option Outcome → ℕ → List (ℕ × Way) → List (ℕ × Way) → Type 0
Notes None n old new = new ≡ old
Notes (Some outcome) n old new = ended_of new ≡ insert (ended_of old) n Removed
