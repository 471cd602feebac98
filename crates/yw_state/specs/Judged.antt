-- Where rule trees stand, what they are asked about, and what they conclude. Trees for cases and for tasks, before and after them and
-- for what happens outside, are the thesis's; which kinds of task have which is our own.
use Rattle.std.specs.Prelude.{ℕ, ◌-◌, ◌==◌, ◌&&◌, ◌||◌, Bool, true, false, not, List, [], ◌∷◌, ◌++◌, map, length, Option, Some, None, is_some, option_map, option_and_then, unwrap_or, slice_get, nat_lt, if◌then◌else◌}
use Rattle.std.specs.Option.{option_or}
use Rattle.yw_base.specs.Values.{zero_of}
use Rattle.yw_base.specs.declared.value.Value.{Value}
use Rattle.yw_spec.specs.declared.spec.Spec.{Spec}
use Rattle.yw_spec.specs.declared.task.Param.{Param}
use Rattle.yw_spec.specs.declared.task.Task.{Task}
use Rattle.yw_state.specs.ByName.{param_value}
use Rattle.yw_state.specs.Identity.{Ident, is_case_ident}
use Rattle.yw_state.specs.Map.{get}
use Rattle.yw_state.specs.Nets.{child_net, is_atomic, net_called, task_called}
use Rattle.yw_state.specs.Options.{is_some_and}
use Rattle.yw_state.specs.RuleTree.{TreeRule, concluded}
use Rattle.yw_state.specs.State.{State, ItemAt, TaskAt, net_part, item_at}
use Rattle.yw_state.specs.Values.{Row}
use Rattle.yw_state.specs.Words.{is_completed}
use Rattle.yw_state.specs.declared.tree.Conclusion.{Conclusion}
use Rattle.yw_state.specs.declared.tree.TreeKind.{TreeKind}
use Rattle.yw_state.specs.declared.tree.TreeKind.TheVariants.{Pre, Post, Select, External, Timeout, Abort}
use Rattle.yw_state.specs.declared.tree.TreePlace.{TreePlace}

-- ---- places of trees

abbrev pub kind_number : TreeKind → ℕ
kind_number Pre = 0
kind_number Post = 1
kind_number Select = 2
kind_number External = 3
kind_number Timeout = 4
kind_number Abort = 5

-- none stands before each name, and names keep their order
abbrev pub name_key : Option (List ℕ) → List ℕ
name_key None = []
name_key (Some name) = 0 ∷ name

-- trees are kept by specification, net, task and kind
abbrev pub place_key : TreePlace → List (List ℕ)
place_key p = p.spec ∷ name_key p.net ∷ name_key p.task ∷ (kind_number p.kind ∷ []) ∷ []

abbrev pub rules_at : State → TreePlace → List TreeRule
rules_at s p = unwrap_or (get s.rules (place_key p)) []

-- the tree at this place has a rule
abbrev pub has_rules : State → TreePlace → Bool
has_rules s p = nat_lt 0 (length (rules_at s p))

abbrev pub is_select : TreeKind → Bool
is_select Select = true
is_select kind = false

abbrev case_has : TreeKind → Bool
case_has Pre = true
case_has Post = true
case_has External = true
case_has kind = false

-- an atomic task has all six kinds, a composite one all but that which chooses worklets, and an empty one none
abbrev task_has : TreeKind → Task → Bool
task_has kind t = is_atomic t || is_some (child_net t) && not (is_select kind)

abbrev has_place : Spec → Option (List ℕ) → Option (List ℕ) → TreeKind → Bool
has_place spec None None kind = case_has kind
has_place spec (Some net) (Some task) kind = is_some_and (option_and_then (λ n. task_called n task) (net_called spec net)) (task_has kind)
has_place spec net task kind = false

-- a tree of this kind may stand there
abbrev pub is_tree_place : Spec → TreePlace → Bool
is_tree_place spec p = has_place spec p.net p.task p.kind

abbrev pub case_place : List ℕ → TreeKind → TreePlace
case_place spec kind = record { spec = spec; net = None; task = None; kind = kind }

abbrev pub task_place : TaskAt → TreeKind → TreePlace
task_place x kind = record { spec = x.within.part.spec; net = Some x.within.net.name; task = Some x.task.name; kind = kind }

-- persons enter it: it is atomic, and no tree chooses worklets for it
abbrev pub is_manual : State → TaskAt → Bool
is_manual s x = is_atomic x.task && length (rules_at s (task_place x Select)) == 0

-- ---- what a tree is asked about

abbrev if_completed : Bool → Option Value → Option Value
if_completed true v = v
if_completed false v = None

-- the value that is made once the item is completed, else the one that is given, else the zero of the sort
abbrev item_value : ItemAt → Param → Value
item_value x p =
    unwrap_or
    (option_or
    (if_completed (is_completed x.part.stage) (param_value x.of_task.task.outs x.part.made p.name))
    (param_value x.of_task.task.ins x.part.given p.name))
    (zero_of p.sort)

abbrev pub item_values : ItemAt → Row
item_values x = map (item_value x) (x.of_task.task.ins ++ x.of_task.task.outs)

-- The rules of a tree, and the values that it is asked about.
pub record Question : Type 0 where
  pub rules : List TreeRule
  pub row : Row

abbrev case_question : State → Ident → TreeKind → Option Question
case_question s j kind = option_map (λ n. record { rules = rules_at s (case_place n.spec kind); row = n.vals }) (net_part s j)

abbrev item_question : State → Ident → TreeKind → Option Question
item_question s j kind = option_map (λ x. record { rules = rules_at s (task_place x.of_task kind); row = item_values x }) (item_at s j)

-- of the tree of this kind for the case or the item at j
abbrev pub question : State → Ident → TreeKind → Option Question
question s j kind = if is_case_ident j then case_question s j kind else item_question s j kind

-- that tree has a rule
abbrev pub has_rule : State → Ident → TreeKind → Bool
has_rule s j kind = is_some_and (question s j kind) (λ q. nat_lt 0 (length q.rules))

-- the number of the rule that it concludes
abbrev pub judged : State → Ident → TreeKind → Option ℕ
judged s j kind = option_and_then (λ (q : Question). concluded q.rules q.row) (question s j kind)

-- what the rule with this number concludes
abbrev pub conclusion_at : State → Ident → TreeKind → ℕ → Option Conclusion
conclusion_at s j kind k =
    option_and_then (λ (q : Question). option_map (λ (r : TreeRule). r.conclusion) (slice_get q.rules (k - 1))) (question s j kind)
