-- What the completion of an item finds first, and what it does to the forest.
use Rattle.std.specs.Prelude.{◌≡◌, ◌++◌, ◌<◌, ◌≤◌, ℕ, Bool, List, None, Option, Some, is_some, length, map, option_and_then, slice_get, true, if◌then◌else◌}
use Rattle.std.specs.List.{enumerate_from, filter_map, list_all}
use Rattle.yw_base.specs.declared.value.Sort.{Sort}
use Rattle.yw_base.specs.declared.value.Value.{Value}
use Rattle.yw_base.specs.declared.value.Value.TheVariants as values
use Rattle.yw_expr.specs.Meaning.{val}
use Rattle.yw_nest.specs.Does.{all_else}
use Rattle.yw_spec.specs.declared.spec.Net.{Net}
use Rattle.yw_spec.specs.declared.task.Assign.{Assign}
use Rattle.yw_spec.specs.declared.task.Param.{Param}
use Rattle.yw_spec.specs.declared.task.Task.{Task}
use Rattle.yw_state.specs.Broken.{First}
use Rattle.yw_state.specs.Given.{made_values, misfit}
use Rattle.yw_state.specs.Identity.{Ident, same}
use Rattle.yw_base.specs.Identity.{parent}
use Rattle.yw_state.specs.Judged.{has_rules, task_place}
use Rattle.yw_state.specs.Passing.{int_in, text_in}
use Rattle.yw_state.specs.State.{ItemAt, State, item_at, items_of}
use Rattle.yw_state.specs.Values.{Row}
use Rattle.yw_state.specs.Well.{item_limit}
use Rattle.yw_state.specs.declared.command.Given.{Given}
use Rattle.yw_state.specs.declared.event.Event.TheVariants as events
use Rattle.yw_state.specs.declared.part.Checks.{Checks}
use Rattle.yw_state.specs.declared.rule.Refusal.{Refusal}
use Rattle.yw_state.specs.declared.tree.TreeKind.TheVariants.{Post}
use Rattle.yw_steps.specs.Stands.{DoesWhere}
use Rattle.yw_task.specs.Completes.{complete_rest, completion_fault, made_of}
use Rattle.yw_task.specs.Making.{is_text, made_by}
use Rattle.yw_tree.specs.Forest.{item_of, sites_of}
use Rattle.yw_tree.specs.Places.{net_at}
use Rattle.yw_tree.specs.Shows.{items_in}
use Rattle.yw_tree.specs.declared.Forest.{Forest}
use Rattle.yw_tree.specs.declared.NetState.{NetState, out-NetState}
use Rattle.yw_tree.specs.declared.Node.{Node, out-Node}

-- ---- the item

-- The item that stands at j, and the net in which it stands; this net has its task.
pub record IsItemIn (f : Forest) (net : Net) (j : Ident) : Type 0 where
  pub item : Node
  pub outer : NetState
  pub found : item_of f j ≡ Some item
  pub stands_in : net_at f (parent j) ≡ Some outer
  pub task : (out-Node item).task < length net.tasks

-- The item stands at j with its task, in this net of its specification, which has no more items of the task than it may have.
pub record ItemIs (s : State) (j : Ident) (net : Net) : Type 0 where
  pub there : ItemAt
  pub known : item_at s j ≡ Some there
  pub net_is : there.of_task.within.net ≡ net
  pub few : length (items_of s (parent j) there.part.task) ≤ item_limit there.of_task.task.many

-- and the check after it is due if its tree has a rule
pub record MayComplete (net : Net) (j : Ident) (due : Checks) (s : State) : Type 0 where
  pub item_is : ItemIs s j net
  pub rule : due.post ≡ has_rules s (task_place item_is.there.of_task Post)

-- ---- what the items of its task make together, once it has made these values

abbrev pub made_once : Ident → Row → ℕ → Node → Option Value
made_once j out k n = if same (out-Node n).id j then slice_get out k else made_by k n

abbrev pub listed_once : Ident → Row → Sort → ℕ → List Node → Value
listed_once j out sort k ns =
    if is_text sort then values.Texts (filter_map (λ n. option_and_then text_in (made_once j out k n)) ns) else
    values.Ints (filter_map (λ n. option_and_then int_in (made_once j out k n)) ns)

-- of the parameters from number k on
abbrev pub outs_once : Ident → Row → List Node → ℕ → List Param → Row
outs_once j out ns k ps = map (λ (e : ℕ × Param). listed_once j out e.1.sort e.0 ns) (enumerate_from k ps)

-- ---- what the assignments of its task speak of then

-- what the items make together, and behind it the net's values
abbrev pub speaks_once : Task → List Node → Row → Ident → Row → Row
speaks_once task ns vals j out = made_of task (outs_once j out ns 0 task.outs) out ++ vals

-- each assignment is defined over it
abbrev pub defined_once : Task → List Node → Row → Ident → Row → Bool
defined_once task ns vals j out = list_all (λ (a : Assign). is_some (val a.value (speaks_once task ns vals j out))) task.set

-- ---- the first broken rule

-- This is the first broken rule, of those that the item, its values and the assignments of its task show.
pub record Finds (f : Forest) (net : Net) (j : Ident) (who : List ℕ) (out : Row) (found : Option Refusal) : Type 0 where
  pub place : IsItemIn f net j
  pub task : Task
  pub of_task : slice_get net.tasks (out-Node place.item).task ≡ Some task
  pub so_far : Row
  pub together : is_some task.many ≡ true → so_far ≡ outs_once j out (items_in place.outer (out-Node place.item).task) 0 task.outs
  pub is : found ≡ completion_fault net task (out-NetState place.outer).vals so_far place.item who out

-- Wherever a state has the map of the forest, and there the item as is said, this is the first that its completion breaks with these values.
abbrev pub CompleteBreaks : Forest → Net → Ident → List ℕ → Row → Option Refusal → Type 0
CompleteBreaks f net j who out found =
    (names : ℕ → List ℕ) (s : State) (gs : List Given) (is : ItemIs s j net) → s.sites ≡ sites_of names f
    → misfit is.there.of_task.task.outs gs ≡ None → made_values is.there.of_task.task.outs gs ≡ Some out → First (complete_rest s who j gs) found

-- ---- what it does

-- the item at j is completed with these values
abbrev pub Completes : Net → Ident → Row → Checks → Forest → Forest → Type 0
Completes net j out due = DoesWhere (λ names. events.Complete j out) (λ names. MayComplete net j due) all_else
