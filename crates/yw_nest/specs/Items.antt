-- Items that go on without a person: one of an empty task, and one with a net of its own.
use Rattle.std.specs.Prelude.{◌≡◌, ℕ, IsSome, None, Some, length, map, option_and_then, slice_get}
use Rattle.yw_nest.specs.Cases.{first_tokens}
use Rattle.yw_nest.specs.Does.{Does, NeedsNothing, all_else}
use Rattle.yw_nest.specs.Values.{made_value}
use Rattle.yw_spec.specs.declared.spec.Net.{Net}
use Rattle.yw_spec.specs.declared.spec.Spec.{Spec}
use Rattle.yw_spec.specs.declared.task.Task.{Task}
use Rattle.yw_state.specs.ByName.{first_values, param_value}
use Rattle.yw_state.specs.Identity.{Ident}
use Rattle.yw_base.specs.Identity.{parent}
use Rattle.yw_state.specs.Judged.{has_rules, task_place}
use Rattle.yw_state.specs.Nets.{child_net}
use Rattle.yw_state.specs.State.{ItemAt, NetPart, State, item_at, net_part, spec_called}
use Rattle.yw_state.specs.Values.{Row}
use Rattle.yw_state.specs.declared.event.Event.TheVariants as events
use Rattle.yw_state.specs.declared.part.Checks.{Checks}
use Rattle.yw_state.specs.declared.tree.TreeKind.TheVariants.{Post}
use Rattle.yw_tree.specs.Begins.{BeginsNet}
use Rattle.yw_tree.specs.Forest.{item_of}
use Rattle.yw_tree.specs.Places.{net_at}
use Rattle.yw_tree.specs.declared.Forest.{Forest}
use Rattle.yw_tree.specs.declared.NetState.{NetState, out-NetState}
use Rattle.yw_tree.specs.declared.Node.{Node, out-Node}
use Rattle.yw_within.specs.Within.{IsWithin}

-- an item of an empty task is completed, with nothing made
abbrev pub CompletesEmpty : Ident → Forest → Forest → Type 0
CompletesEmpty j = Does (λ names. events.CompleteEmpty j) NeedsNothing all_else

-- ---- an item in a net of the specification

-- The item that stands at j, the net in which it stands, and its task.
pub record IsOfTask (f : Forest) (spec : Spec) (j : Ident) : Type 0 where
  pub item : Node
  pub outer : NetState
  pub net : Net
  pub task : Task
  pub found : item_of f j ≡ Some item
  pub stands_in : net_at f (parent j) ≡ Some outer
  pub of_net : slice_get spec.nets (out-NetState outer).net ≡ Some net
  pub of_task : slice_get net.tasks (out-Node item).task ≡ Some task

-- the net that stands at i is of this specification
abbrev pub IsNetOf : State → Ident → Spec → Type 0
IsNetOf s i spec = option_and_then (λ (n : NetPart). spec_called s n.spec) (net_part s i) ≡ Some spec

-- ---- its net begins

-- The item is of a composite task, and no net stands at it yet.
pub record SubMayStart (f : Forest) (spec : Spec) (j : Ident) : Type 0 where
  pub within : IsWithin spec
  pub place : IsOfTask f spec j
  pub composite : IsSome (child_net place.task)
  pub vacant : net_at f j ≡ None

-- This is the task's child net as it begins, with the values that the item was given by name.
pub record BeginsChild (f : Forest) (spec : Spec) (j : Ident) (s : NetState) : Type 0 where
  pub place : IsOfTask f spec j
  pub number : ℕ
  pub child : Net
  pub of_task : child_net place.task ≡ Some number
  pub of_spec : slice_get spec.nets number ≡ Some child
  pub begins :
      BeginsNet (out-NetState place.outer).spec number (first_tokens child) (first_values (param_value place.task.ins (out-Node place.item).given) child)
      (length child.tasks) s

abbrev pub StartsSub : Spec → Ident → Forest → Forest → Type 0
StartsSub spec j = Does (λ names. events.StartSub j) (λ names s. IsNetOf s (parent j) spec) all_else

-- ---- its net ends

-- A net of the specification stands at the item.
pub record SubMayEnd (f : Forest) (spec : Spec) (j : Ident) : Type 0 where
  pub place : IsOfTask f spec j
  pub inner : NetState
  pub child : Net
  pub stands : net_at f j ≡ Some inner
  pub of_child : slice_get spec.nets (out-NetState inner).net ≡ Some child

-- This is what the item makes, by the variables of that net.
pub record MadeByChild (f : Forest) (spec : Spec) (j : Ident) (made : Row) : Type 0 where
  pub may : SubMayEnd f spec j
  pub values : made ≡ map (made_value may.child.vars (out-NetState may.inner).vals) may.place.task.outs

-- Both nets are of the specification, and the check after the item is due if its tree has a rule.
pub record EndsAs (spec : Spec) (j : Ident) (due : Checks) (s : State) : Type 0 where
  pub outer : IsNetOf s (parent j) spec
  pub inner : IsNetOf s j spec
  pub checks : (x : ItemAt) → item_at s j ≡ Some x → due.post ≡ has_rules s (task_place x.of_task Post)

abbrev pub CompletesSub : Spec → Ident → Checks → Forest → Forest → Type 0
CompletesSub spec j due = Does (λ names. events.CompleteSub j) (λ names s. EndsAs spec j due s) all_else
