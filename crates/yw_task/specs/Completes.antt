-- What a completion finds first, and what it does.
use Rattle.std.specs.Prelude.{◌≡◌, ◌++◌, ℕ, List, [], Option, Some, None, Result, Ok, Err, drop, find, is_none, is_some, option_map, slice_get, if◌then◌else◌}
use Rattle.std.specs.Option.{option_map_or}
use Rattle.yw_expr.specs.Meaning.{val}
use Rattle.yw_spec.specs.declared.spec.Net.{Net}
use Rattle.yw_spec.specs.declared.spec.Var.{Var}
use Rattle.yw_spec.specs.declared.task.Assign.{Assign}
use Rattle.yw_spec.specs.declared.task.Task.{Task}
use Rattle.yw_state.specs.Broken.{Check, First, complete_checks, placed, placeless}
use Rattle.yw_state.specs.Events.{after}
use Rattle.yw_state.specs.Given.{made_values, misfit}
use Rattle.yw_state.specs.Identity.{Ident}
use Rattle.yw_base.specs.Identity.{parent}
use Rattle.yw_state.specs.Judged.{has_rules, task_place}
use Rattle.yw_state.specs.Passing.{made_rows_with, set_row}
use Rattle.yw_state.specs.State.{ItemAt, State, item_at, items_of}
use Rattle.yw_state.specs.Texts.{Said}
use Rattle.yw_state.specs.Values.{Row}
use Rattle.yw_state.specs.declared.command.Given.{Given}
use Rattle.yw_state.specs.declared.event.Event.TheVariants as events
use Rattle.yw_state.specs.declared.part.Checks.{Checks}
use Rattle.yw_state.specs.declared.rule.Refusal.{Refusal}
use Rattle.yw_state.specs.declared.rule.Rule.{Rule}
use Rattle.yw_state.specs.declared.rule.Rule.TheVariants as rules
use Rattle.yw_state.specs.declared.tree.TreeKind.TheVariants.{Post}
use Rattle.yw_task.specs.Asked.{complete_fault}
use Rattle.yw_task.specs.Standing.{ItemStands, Places}
use Rattle.yw_task.specs.declared.fault.StepFault.{StepFault}
use Rattle.yw_task.specs.declared.fault.StepFault.TheVariants.{Memory, Refused}
use Rattle.yw_tree.specs.declared.Forest.{Forest}
use Rattle.yw_tree.specs.declared.Node.{Node, out-Node}

-- ---- the first broken rule, by the values at hand

abbrev pub name_of : Net → ℕ → List ℕ
name_of net k = option_map_or (λ (x : Var). x.name) (slice_get net.vars k) []

-- the variable of the first assignment that is undefined over these values
abbrev pub first_undefined : List Assign → Row → Option ℕ
first_undefined set row = option_map (λ (a : Assign). a.var) (find (λ (a : Assign). is_none (val a.value row)) set)

-- what the items of the task made together: of several what is listed, of one what it makes
abbrev pub made_of : Task → Row → Row → Row
made_of t so_far out = if is_some t.many then so_far else out

abbrev pub mapping_fault : Net → Option ℕ → Option Refusal
mapping_fault net var = option_map (λ k. placed rules.Mapping (name_of net k)) var

abbrev pub or_else : Option Refusal → Option Rule → Option Refusal
or_else later None = later
or_else later (Some rule) = Some (placeless rule)

-- where the item itself breaks nothing
abbrev pub undefined_fault : Net → Task → Row → Row → Row → Option Refusal
undefined_fault net t vals so_far out = mapping_fault net (first_undefined t.set (made_of t so_far out ++ vals))

abbrev pub completion_fault : Net → Task → Row → Row → Node → List ℕ → Row → Option Refusal
completion_fault net t vals so_far n who out = or_else (undefined_fault net t vals so_far out) (complete_fault n who)

-- ---- that it is the first of the table

-- the checks behind those on the person, on rest and suspension, and on whether there is such an item that persons do
abbrev pub complete_rest : State → List ℕ → Ident → List Given → List Check
complete_rest s who j gs = drop 5 (complete_checks s who j gs)

-- what assignments speak of once the item at j has made these values
abbrev pub speaks_of : State → Ident → ItemAt → Row → Row
speaks_of s j x out =
    set_row x.of_task.task (made_rows_with (items_of s (parent j) x.part.task) j out) x.of_task.within.part.vals

-- The item stands with its task, in this net. The values that are given are these. What assignments speak of, once the item has made
-- them, is what all items of the task make together, and behind it the net's values.
pub record MayComplete (names : ℕ → List ℕ) (f : Forest) (s : State) (x : ItemAt) (net : Net) (vals so_far : Row) (n : Node) (out : Row)
    (gs : List Given) : Type 0 where
  pub stands : ItemStands names f s n
  pub known : item_at s (out-Node n).id ≡ Some x
  pub net_is : x.of_task.within.net ≡ net
  pub fits : misfit x.of_task.task.outs gs ≡ None
  pub given : made_values x.of_task.task.outs gs ≡ Some out
  pub together : speaks_of s (out-Node n).id x out ≡ made_of x.of_task.task so_far out ++ vals

-- wherever the item stands, this is the first that the completion breaks
abbrev pub CompleteBreaks : Net → Row → Row → Node → List ℕ → Row → Option Refusal → Type 0
CompleteBreaks net vals so_far n who out found =
    (names : ℕ → List ℕ) (f : Forest) (s : State) (x : ItemAt) (gs : List Given) → MayComplete names f s x net vals so_far n out gs
    → First (complete_rest s who (out-Node n).id gs) found

-- the answer has what is found first; want of memory says nothing of it
abbrev pub AnswersFirst : {A : Type 0} → (Option Refusal → Type 0) → Result A StepFault → Type 0
AnswersFirst P (Ok x) = P None
AnswersFirst P (Err (Refused refusal)) = P (Some refusal)
AnswersFirst P (Err Memory) = Unit {0}

-- ---- what it does

-- wherever the item stands with its task, if the check after it is due where its tree has a rule
abbrev pub Completes : Node → Row → Checks → Node → Type 0
Completes old out due new =
    (names : ℕ → List ℕ) (f : Forest) (s : State) (x : ItemAt) (said : Said) → ItemStands names f s old → item_at s (out-Node old).id ≡ Some x
    → due.post ≡ has_rules s (task_place x.of_task Post) → Places names f s (after s (events.Complete (out-Node old).id out) said) old new
