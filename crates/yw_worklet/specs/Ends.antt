-- A worklet that ends.
use Rattle.std.specs.Prelude.{◌≡◌, Some, map, slice_get}
use Rattle.yw_nest.specs.Does.{Does, all_else}
use Rattle.yw_nest.specs.Items.{IsNetOf}
use Rattle.yw_spec.specs.declared.spec.Net.{Net}
use Rattle.yw_spec.specs.declared.spec.Spec.{Spec}
use Rattle.yw_spec.specs.declared.task.Task.{Task}
use Rattle.yw_state.specs.ByName.{param_value}
use Rattle.yw_state.specs.Identity.{Ident}
use Rattle.yw_state.specs.Judged.{has_rules, task_place}
use Rattle.yw_state.specs.State.{ItemAt, State, item_at}
use Rattle.yw_state.specs.Values.{Row}
use Rattle.yw_state.specs.declared.event.Event.TheVariants as events
use Rattle.yw_state.specs.declared.part.Checks.{Checks}
use Rattle.yw_state.specs.declared.tree.TreeKind.TheVariants.{Post}
use Rattle.yw_tree.specs.Forest.{item_of}
use Rattle.yw_tree.specs.Places.{net_at}
use Rattle.yw_tree.specs.declared.Forest.{Forest}
use Rattle.yw_tree.specs.declared.NetState.{NetState, out-NetState}
use Rattle.yw_tree.specs.declared.Node.{Node, out-Node}
use Rattle.yw_worklet.specs.Chosen.{IsItemOf}
use Rattle.yw_worklet.specs.Named.{handed_back, returned_value}

-- An item stands at j, and at it a net of the worklet.
pub record MayEnd (f : Forest) (worklet : Spec) (j : Ident) : Type 0 where
  pub item : Node
  pub inner : NetState
  pub net : Net
  pub found : item_of f j ≡ Some item
  pub stands : net_at f j ≡ Some inner
  pub of_net : slice_get worklet.nets (out-NetState inner).net ≡ Some net

-- This is what the item makes, by the variables of that net and by what it was given.
pub record MadeByWorklet (f : Forest) (task : Task) (worklet : Spec) (j : Ident) (made : Row) : Type 0 where
  pub may : MayEnd f worklet j
  pub values : made ≡ map (returned_value (handed_back may.net.vars (out-NetState may.inner).vals) (param_value task.ins (out-Node may.item).given)) task.outs

-- The item is of the task, the net is of the worklet, and the check after the item is due if its tree has a rule.
pub record EndsAs (task : Task) (worklet : Spec) (j : Ident) (due : Checks) (s : State) : Type 0 where
  pub item : IsItemOf s j task
  pub inner : IsNetOf s j worklet
  pub checks : (x : ItemAt) → item_at s j ≡ Some x → due.post ≡ has_rules s (task_place x.of_task Post)

abbrev pub CompletesWorklet : Task → Spec → Ident → Checks → Forest → Forest → Type 0
CompletesWorklet task worklet j due = Does (λ names. events.CompleteWorklet j) (λ names s. EndsAs task worklet j due s) all_else
