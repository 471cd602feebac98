-- A worklet that is chosen for an item.
use Rattle.std.specs.Prelude.{◌≡◌, Bool, IsSome, List, None, Option, Some, if◌then◌else◌, option_map, ℕ}
use Rattle.yw_nest.specs.Does.{Does, all_else}
use Rattle.yw_spec.specs.declared.spec.Spec.{Spec}
use Rattle.yw_spec.specs.declared.task.Task.{Task}
use Rattle.yw_state.specs.Allowed.{is_too_deep}
use Rattle.yw_state.specs.ByName.{param_value}
use Rattle.yw_state.specs.Identity.{Ident}
use Rattle.yw_state.specs.State.{ItemAt, State, item_at, spec_called}
use Rattle.yw_state.specs.declared.event.Event.TheVariants as events
use Rattle.yw_tree.specs.Forest.{item_of}
use Rattle.yw_tree.specs.Places.{net_at}
use Rattle.yw_tree.specs.declared.Forest.{Forest}
use Rattle.yw_tree.specs.declared.NetState.{NetState}
use Rattle.yw_tree.specs.declared.Node.{Node, out-Node}
use Rattle.yw_within.specs.Within.{IsWithin}
use Rattle.yw_worklet.specs.Begins.{BeginsTop}

-- what the tree gives, where a worklet may begin at j
abbrev pub where_shallow : Ident → Option ℕ → Option ℕ
where_shallow j node = if is_too_deep j then None else node

-- the item that stands at j is of this task
abbrev pub IsItemOf : State → Ident → Task → Type 0
IsItemOf s j task = option_map (λ (x : ItemAt). x.of_task.task) (item_at s j) ≡ Some task

-- An item stands at j, and no net does. The worklet is one that can be loaded.
pub record MayChoose (f : Forest) (worklet : Spec) (j : Ident) : Type 0 where
  pub within : IsWithin worklet
  pub stands : IsSome (item_of f j)
  pub vacant : net_at f j ≡ None

-- This is the worklet's top net as it begins, with the values that the item was given by name.
pub record BeginsFor (f : Forest) (task : Task) (worklet : Spec) (number : ℕ) (j : Ident) (s : NetState) : Type 0 where
  pub item : Node
  pub found : item_of f j ≡ Some item
  pub begins : BeginsTop worklet number (param_value task.ins (out-Node item).given) s

-- The item is of the task, and the worklet is the one that is loaded under its name.
pub record ChoosesAs (task : Task) (worklet : Spec) (number : ℕ) (j : Ident) (names : ℕ → List ℕ) (s : State) : Type 0 where
  pub item : IsItemOf s j task
  pub loaded : spec_called s (names number) ≡ Some worklet

abbrev pub Substitutes : Task → Spec → ℕ → Ident → Forest → Forest → Type 0
Substitutes task worklet number j = Does (λ names. events.Substitute j (names number)) (ChoosesAs task worklet number j) all_else
