-- The first rule that a command or a query breaks: a table of checks for each, in the one order of rules. The rules and their order are
-- our own.
use Rattle.std.specs.Prelude.{◌≡◌, ◌⊎◌, ℕ, ◌+◌, ◌&&◌, ◌||◌, Bool, true, false, not, List, [], ◌∷◌, ◌++◌, find, length, Option, Some, None, is_some, is_none, option_map, option_and_then, unwrap_or, slice_get, nat_le, nat_lt, IsTrue, Ok, Err, codes, if◌then◌else◌}
use Rattle.std.specs.List.{list_any}
use Rattle.std.specs.Option.{option_map_or}
use Rattle.std.specs.Str.{bytes_eq}
use Rattle.yw_base.specs.Identity.{number_end, case_number, parent}
use Rattle.yw_base.specs.declared.value.Value.{Value}
use Rattle.yw_expr.specs.Meaning.{val}
use Rattle.yw_spec.specs.declared.spec.Net.{Net}
use Rattle.yw_spec.specs.declared.spec.Spec.{Spec}
use Rattle.yw_spec.specs.declared.spec.Var.{Var}
use Rattle.yw_spec.specs.declared.task.Assign.{Assign}
use Rattle.yw_spec.specs.declared.task.Param.{Param}
use Rattle.yw_spec.specs.declared.task.Task.{Task}
use Rattle.yw_state.specs.Automatic.{Comes}
use Rattle.yw_state.specs.Given.{element_value, made_values, misfit, unwanted}
use Rattle.yw_state.specs.Identity.{Ident, is_case_ident}
use Rattle.yw_state.specs.Joins.{Waits, has_tokens}
use Rattle.yw_state.specs.Judged.{has_rule, is_manual, is_tree_place, judged, rules_at}
use Rattle.yw_state.specs.Map.{get, has_key}
use Rattle.yw_base.specs.Gates.{is_or}
use Rattle.yw_state.specs.Nets.{is_atomic}
use Rattle.yw_state.specs.NewRule.{has_room, is_side, is_taken, may_conclude, tree_scope}
use Rattle.yw_state.specs.Options.{is_some_and}
use Rattle.yw_state.specs.Passing.{elements_for, entry_values, made_rows_with, set_row, within_bounds}
use Rattle.yw_state.specs.State.{State, TaskAt, ItemAt, NetAt, is_case, is_item, is_suspended, item_at, items_of, net_part, spec_called, task_at, top_called}
use Rattle.yw_state.specs.Texts.{Reader}
use Rattle.yw_state.specs.Values.{Row}
use Rattle.yw_state.specs.Words.{active, busy, held, is_executing, is_ready}
use Rattle.yw_state.specs.declared.command.Command.{Command}
use Rattle.yw_state.specs.declared.command.Command.TheVariants as commands
use Rattle.yw_state.specs.declared.command.Given.{Given}
use Rattle.yw_state.specs.declared.command.Query.{Query}
use Rattle.yw_state.specs.declared.command.Query.TheVariants as queries
use Rattle.yw_state.specs.declared.event.Event.{Event}
use Rattle.yw_state.specs.declared.rule.Refusal.{Refusal}
use Rattle.yw_state.specs.declared.rule.Rule.{Rule}
use Rattle.yw_state.specs.declared.rule.Rule.TheVariants.{SpecExists, UnknownSpec, UnknownPlace, PlaceTaken, BadExpr, BadConclusion, UnknownPerson, UnknownCase, UnknownItem, NotQuiet, UnknownTask, ByItself, NotDynamic, Role, Held, Active, NotEnabled, OrWaits, Stage, NotYours, Busy, MaxReached, BadData, Output, Mapping, Count, NoTrigger, NoExlet, Mark, Numbers}
use Rattle.yw_state.specs.declared.tree.Conclusion.{Conclusion}
use Rattle.yw_state.specs.declared.tree.TreeKind.{TreeKind}
use Rattle.yw_state.specs.declared.tree.TreePlace.{TreePlace}

-- a rule without a place
abbrev pub placeless : Rule → Refusal
placeless rule = record { rule = rule; at = [] }

abbrev pub placed : Rule → List ℕ → Refusal
placed rule at = record { rule = rule; at = at }

-- ---- tables of checks

-- A rule is broken where a test or a fact holds; or at a place that is computed or found, if there is one; or a text has a fault.
pub data Check : Type 1 where
  test : (broken : Bool) (rule : Rule) → Check
  fact : (Broken : Type 0) (rule : Rule) → Check
  test_at : (place : Option (List ℕ)) (rule : Rule) → Check
  fact_at : (IsAt : List ℕ → Type 0) (rule : Rule) → Check
  fault : (Has : Refusal → Type 0) → Check

-- there is none
abbrev NoneIs : {A : Type 0} → (A → Type 0) → Type 0
NoneIs {A} P = (x : A) → P x → ⊥

-- the first that is broken, or nothing where none is
abbrev pub First : List Check → Option Refusal → Type 0
First [] found = found ≡ None
First (test true r ∷ cs) found = found ≡ Some (placeless r)
First (test false r ∷ cs) found = First cs found
First (fact P r ∷ cs) found = (P × (found ≡ Some (placeless r))) ⊎ ((P → ⊥) × First cs found)
First (test_at (Some place) r ∷ cs) found = found ≡ Some (placed r place)
First (test_at None r ∷ cs) found = First cs found
First (fact_at P r ∷ cs) found = ((at : List ℕ) × P at × (found ≡ Some (placed r at))) ⊎ (NoneIs P × First cs found)
First (fault P ∷ cs) found = ((refusal : Refusal) × P refusal × (found ≡ Some refusal)) ⊎ (NoneIs P × First cs found)

-- ---- tests that several commands share

abbrev is_stranger : State → List ℕ → Bool
is_stranger s who = not (has_key s.persons who)

abbrev pub has_role : List (List ℕ) → Option (List ℕ) → Bool
has_role roles None = true
has_role roles (Some role) = list_any (bytes_eq role) roles

abbrev lacks_role : State → List ℕ → Task → Bool
lacks_role s who t = not (has_role (unwrap_or (get s.persons who) []) t.role)

abbrev at_task : State → Ident → List ℕ → (TaskAt → Bool) → Bool
at_task s i t p = is_some_and (task_at s i t) p

abbrev at_item : State → Ident → (ItemAt → Bool) → Bool
at_item s j p = is_some_and (item_at s j) p

-- so many numbers are no longer left
abbrev pub is_spent : State → ℕ → Bool
is_spent s count = nat_lt number_end (s.next + count)

-- something is still to come of itself
abbrev IsMoving : State → Ident → Type 0
IsMoving s j = (e : Event) × Comes s (case_number j) e

-- no case at one number, no item at several
abbrev no_target : State → Ident → List Check
no_target s j = test (is_case_ident j && not (is_case s j)) UnknownCase ∷ test (not (is_case_ident j) && not (is_item s j)) UnknownItem ∷ []

-- ---- undefined expressions, by what they are for

abbrev pub undefined_value : Row → Param → Bool
undefined_value row p = is_some_and p.value (λ e. is_none (val e row))

abbrev pub undefined_in : TaskAt → Option (List ℕ)
undefined_in x = option_map (λ (p : Param). p.name) (find (undefined_value x.within.part.vals) x.task.ins)

-- `each`, or the first parameter
abbrev pub undefined_entry : TaskAt → Option (List ℕ)
undefined_entry x = if is_none (elements_for x.task.many x.within.part.vals) then Some (codes "each") else undefined_in x

abbrev var_name : NetAt → ℕ → List ℕ
var_name n k = option_map_or (λ (x : Var). x.name) (slice_get n.net.vars k) []

-- the variable of the first assignment that is undefined
abbrev undefined_set : TaskAt → List Row → Option (List ℕ)
undefined_set x rows =
    option_map (λ (a : Assign). var_name x.within a.var) (find (λ (a : Assign). is_none (val a.value (set_row x.task rows x.within.part.vals))) x.task.set)

-- ---- the checks of each command

-- a specification of this text's name is loaded
abbrev pub IsNameLoaded : Reader → State → List ℕ → Type 0
IsNameLoaded reader s text = (spec : Spec) × reader.spec text (Ok spec) × IsTrue (has_key s.specs spec.name)

abbrev load_checks : Reader → State → List ℕ → List Check
load_checks reader s text = fault (λ refusal. reader.spec text (Err refusal)) ∷ fact (IsNameLoaded reader s text) SpecExists ∷ []

abbrev Misspelt : Reader → State → TreePlace → List ℕ → List ℕ → Type 0
Misspelt reader s p when at = (spec : Spec) × (spec_called s p.spec ≡ Some spec) × reader.condition when (tree_scope spec p) (Err at)

abbrev rule_checks : Reader → State → TreePlace → ℕ → Bool → List ℕ → Conclusion → List Check
rule_checks reader s p at side when conclusion =
    test (is_none (spec_called s p.spec)) UnknownSpec
    ∷ test (not (is_some_and (spec_called s p.spec) (λ spec. is_tree_place spec p) && is_side (length (rules_at s p)) at side)) UnknownPlace
    ∷ test (is_taken (rules_at s p) at side) PlaceTaken
    ∷ fact_at (Misspelt reader s p when) BadExpr
    ∷ test (not (may_conclude s p conclusion)) BadConclusion
    ∷ test (not (has_room s p)) Numbers
    ∷ []

abbrev launch_checks : State → List ℕ → List Given → List Check
launch_checks s name gs =
    test (not (has_key s.specs name)) UnknownSpec
    ∷ test_at (option_and_then (λ (net : Net). unwanted net.vars gs) (top_called s name)) BadData
    ∷ test (is_spent s 1) Numbers
    ∷ []

-- so many items come where the task is entered
abbrev pub entry_count : TaskAt → ℕ
entry_count x = length (unwrap_or (entry_values x.task x.within.part.vals) [])

abbrev pub misses_bounds : TaskAt → Bool
misses_bounds x = not (within_bounds x.task.many (entry_count x))

abbrev WaitsThere : State → Ident → List ℕ → Type 0
WaitsThere s i t = (x : TaskAt) × (task_at s i t ≡ Some x) × IsTrue (is_or x.task.join) × Waits s i x

abbrev pub enter_checks : State → List ℕ → Ident → List ℕ → List Check
enter_checks s who i t =
    test (is_stranger s who) UnknownPerson
    ∷ test (is_none (net_part s i)) UnknownCase
    ∷ fact (IsMoving s i) NotQuiet
    ∷ test (is_none (task_at s i t)) UnknownTask
    ∷ test (at_task s i t (λ x. not (is_manual s x))) ByItself
    ∷ test (at_task s i t (λ x. lacks_role s who x.task)) Role
    ∷ test (held s i) Held
    ∷ test (at_task s i t (λ x. active s i x.number)) Active
    ∷ test (at_task s i t (λ x. not (has_tokens x.task.join s i x.task.before))) NotEnabled
    ∷ fact (WaitsThere s i t) OrWaits
    ∷ test_at (option_and_then undefined_entry (task_at s i t)) Mapping
    ∷ test (at_task s i t misses_bounds) Count
    ∷ test (at_task s i t (λ x. is_spent s (entry_count x))) Numbers
    ∷ []

abbrev pub start_checks : State → List ℕ → Ident → List Check
start_checks s who j =
    test (is_stranger s who) UnknownPerson
    ∷ test (not (is_item s j)) UnknownItem
    ∷ fact (IsMoving s j) NotQuiet
    ∷ test (at_item s j (λ x. not (is_atomic x.of_task.task))) ByItself
    ∷ test (at_item s j (λ x. lacks_role s who x.of_task.task)) Role
    ∷ test (held s j) Held
    ∷ test (at_item s j (λ x. not (is_ready x.part.stage))) Stage
    ∷ test (busy s j) Busy
    ∷ []

abbrev is_others : List ℕ → ItemAt → Bool
is_others who x = is_some_and x.part.who (λ name. not (bytes_eq name who))

abbrev undefined_complete : State → Ident → List Given → ItemAt → Option (List ℕ)
undefined_complete s j gs x =
    undefined_set x.of_task (made_rows_with (items_of s (parent j) x.part.task) j (unwrap_or (made_values x.of_task.task.outs gs) []))

abbrev pub complete_checks : State → List ℕ → Ident → List Given → List Check
complete_checks s who j gs =
    test (is_stranger s who) UnknownPerson
    ∷ test (not (is_item s j)) UnknownItem
    ∷ fact (IsMoving s j) NotQuiet
    ∷ test (at_item s j (λ x. not (is_atomic x.of_task.task) || is_some (net_part s j))) ByItself
    ∷ test (held s j) Held
    ∷ test (at_item s j (λ x. not (is_executing x.part.stage))) Stage
    ∷ test (at_item s j (is_others who)) NotYours
    ∷ test (busy s j) Busy
    ∷ test_at (option_and_then (λ x. misfit x.of_task.task.outs gs) (item_at s j)) Output
    ∷ test_at (option_and_then (undefined_complete s j gs) (item_at s j)) Mapping
    ∷ []

abbrev pub bad_element : Option Value → TaskAt → Option (List ℕ)
bad_element value x = if is_none (element_value x.task value) then Some (codes "value") else None

abbrev add_checks : State → List ℕ → Ident → List ℕ → Option Value → List Check
add_checks s who i t value =
    test (is_stranger s who) UnknownPerson
    ∷ test (is_none (net_part s i)) UnknownCase
    ∷ fact (IsMoving s i) NotQuiet
    ∷ test (is_none (task_at s i t)) UnknownTask
    ∷ test (at_task s i t (λ x. not (is_some_and x.task.many (λ m. m.dynamic)))) NotDynamic
    ∷ test (at_task s i t (λ x. lacks_role s who x.task)) Role
    ∷ test (held s i) Held
    ∷ test (at_task s i t (λ x. not (active s i x.number))) Stage
    ∷ test (at_task s i t (λ x. is_some_and x.task.many (λ m. nat_le m.max (length (items_of s i x.number))))) MaxReached
    ∷ test_at (option_and_then (bad_element value) (task_at s i t)) BadData
    ∷ test_at (option_and_then undefined_in (task_at s i t)) Mapping
    ∷ test (is_spent s 1) Numbers
    ∷ []

abbrev raise_checks : State → Ident → TreeKind → List Check
raise_checks s j kind =
    no_target s j
    ++ (fact (IsMoving s j) NotQuiet
    ∷ test (busy s j) Busy
    ∷ test (not (has_rule s j kind)) NoTrigger
    ∷ test (is_none (judged s j kind)) NoExlet
    ∷ test (is_spent s 1) Numbers
    ∷ [])

unfoldable pub checks : Reader → State → Command → List Check
checks reader s (commands.Person name roles) = []
checks reader s (commands.Load toml) = load_checks reader s toml
checks reader s (commands.Rule spec net task kind at side when conclusion) =
    rule_checks reader s (record { spec = spec; net = net; task = task; kind = kind }) at side when conclusion
checks reader s (commands.Launch spec gs) = launch_checks s spec gs
checks reader s (commands.Enter who i t) = enter_checks s who i t
checks reader s (commands.Start who j) = start_checks s who j
checks reader s (commands.Complete who j gs) = complete_checks s who j gs
checks reader s (commands.Add who i t value) = add_checks s who i t value
checks reader s (commands.Raise j kind) = raise_checks s j kind
checks reader s (commands.Suspend j) = no_target s j ++ (test (is_suspended s j) Mark ∷ [])
checks reader s (commands.Continue j) = no_target s j ++ (test (not (is_suspended s j)) Mark ∷ [])
checks reader s (commands.Cancel j) = test (not (is_case s j)) UnknownCase ∷ []
checks reader s (commands.Advance j) = test (not (is_case s j)) UnknownCase ∷ []

-- a case that is over
abbrev pub is_ended : State → Ident → Bool
is_ended s j = is_case_ident j && has_key s.ended (case_number j)

unfoldable pub query_checks : State → Query → List Check
query_checks s (queries.List who) = test (is_stranger s who) UnknownPerson ∷ []
query_checks s (queries.Show j) = test (not (is_case s j)) UnknownCase ∷ []
query_checks s (queries.Ended j) = test (not (is_ended s j)) UnknownCase ∷ []
query_checks s queries.Specs = []

-- the first rule that the command breaks, or nothing
abbrev pub Breaks : Reader → State → Command → Option Refusal → Type 0
Breaks reader s c found = First (checks reader s c) found

-- the first rule that the query breaks, or nothing
abbrev pub QueryBreaks : State → Query → Option Refusal → Type 0
QueryBreaks s q found = First (query_checks s q) found
