-- The first rule that an addition breaks, of those that the net and the values show.
use Rattle.std.proofs.Common.{Bool, List, None, Option, Some, [], ap, cond, false, length, refl, subst, sym, true, ℕ, ◌+◌, ◌∙◌, ◌∷◌, ◌≡◌}
use Rattle.std.specs.Option.{option_or}
use Rattle.std.specs.Prelude.{drop, find, is_none, map, nat_lt, not, option_and_then, option_map, slice_get, if◌then◌else◌}
use Rattle.yw_base.specs.Identity.{number_end}
use Rattle.yw_base.specs.declared.value.Value.{Value}
use Rattle.yw_expr.specs.Meaning.{val}
use Rattle.yw_expr.specs.Tree.{Tree}
use Rattle.yw_spec.specs.declared.spec.Net.{Net}
use Rattle.yw_spec.specs.declared.task.Param.{Param}
use Rattle.yw_spec.specs.declared.task.Task.{Task}
use Rattle.yw_state.proofs.Tests.{by_test, nowhere, some_same}
use Rattle.yw_state.specs.Broken.{First, checks, is_spent, placed, placeless, test, test_at, undefined_in}
use Rattle.yw_state.specs.Identity.{Ident}
use Rattle.yw_state.specs.Options.{all_of, is_some_and}
use Rattle.yw_state.specs.Passing.{given_values}
use Rattle.yw_state.specs.State.{State, TaskAt, items_of, task_at}
use Rattle.yw_state.specs.Texts.{Reader}
use Rattle.yw_state.specs.Values.{Row}
use Rattle.yw_state.specs.Words.{active}
use Rattle.yw_state.specs.declared.command.Command.TheVariants as commands
use Rattle.yw_state.specs.declared.rule.Refusal.{Refusal}
use Rattle.yw_state.specs.declared.rule.Rule.TheVariants as rules
use Rattle.yw_task.proofs.EnterAsk.{its_active, its_items, length_parts, task_stands}
use Rattle.yw_task.specs.Adds.{AddBreaks, add_table, element_place, is_full, room_rule, value_fault}
use Rattle.yw_task.specs.Asked.{is_active}
use Rattle.yw_task.specs.Completes.{or_else}
use Rattle.yw_task.specs.Giving.{given_value, lacks_value, undefined_param, value_or}
use Rattle.yw_task.specs.Items.{row_of}
use Rattle.yw_tree.specs.declared.NetState.{NetState, out-NetState}

-- ---- the table

-- it is the end of the definitions' own
pub add_table_is : (reader : Reader) (s : State) (who : List ℕ) (i : Ident) (t : List ℕ) (value : Value) → drop 7 (checks reader s (commands.Add who i t (Some value))) ≡ add_table s i t value
unfolding checks
add_table_is reader s who i t value = refl

first_added : (a b c : Bool) (m p : Option (List ℕ))
    → First (test a rules.Stage ∷ test b rules.MaxReached ∷ test_at m rules.BadData ∷ test_at p rules.Mapping ∷ test c rules.Numbers ∷ [])
    (or_else (option_or (option_map (placed rules.BadData) m) (option_or (option_map (placed rules.Mapping) p) (option_map placeless (if c then Some rules.Numbers else None))))
    (if a then Some rules.Stage else (if b then Some rules.MaxReached else None)))
first_added true b c m p = refl
first_added false true c m p = refl
first_added false false c (Some at) p = refl
first_added false false c None (Some at) = refl
first_added false false true None None = refl
first_added false false false None None = refl

module _ (s : State) (i : Ident) (value : Value) where
  abbrev At : Option TaskAt → Option Refusal → Type 0
  At o found =
      First (test (is_some_and o (λ x. not (active s i x.number))) rules.Stage
      ∷ test (is_some_and o (λ x. is_full x.task (length (items_of s i x.number)))) rules.MaxReached
      ∷ test_at (option_and_then (λ x. element_place x.task value) o) rules.BadData
      ∷ test_at (option_and_then undefined_in o) rules.Mapping
      ∷ test (is_spent s 1) rules.Numbers
      ∷ []) found

pub add_breaks : (net : Net) (state : NetState) (t : ℕ) (task : Task) → slice_get net.tasks t ≡ Some task → (value : Value) (n : ℕ)
    → AddBreaks net state t value n (or_else (value_fault task (out-NetState state).vals value n) (room_rule state task t))
add_breaks net state t task at value n = λ names f s i spec u h within there next.
    let vals = (out-NetState state).vals in
    let found : Task → Option Refusal = λ z. or_else (value_fault z vals value n) (room_rule state z t) in
    let Five : Bool → ℕ → ℕ → Type 0 = λ a count m.
    First (test (not a) rules.Stage ∷ test (is_full u count) rules.MaxReached ∷ test_at (element_place u value) rules.BadData ∷ test_at (undefined_param u vals) rules.Mapping ∷ test (nat_lt number_end (m + 1)) rules.Numbers ∷ []) (found u) in
    let count : length (items_of s i t) ≡ length (row_of state t) = ap length (its_items names f s i net state h t) ∙ length_parts (row_of state t) in
    let here : Five (is_active state t) (length (row_of state t)) n =
    first_added (not (is_active state t)) (is_full u (length (row_of state t))) (nat_lt number_end (n + 1)) (element_place u value) (undefined_param u vals) in
    let there_five : Five (active s i t) (length (items_of s i t)) s.next =
    subst (λ a. Five a (length (items_of s i t)) s.next) (sym (its_active names f s i net state h t))
    (subst (λ k. Five (is_active state t) k s.next) (sym count) (subst (λ m. Five (is_active state t) (length (row_of state t)) m) (sym next) here)) in
    subst (λ (z : Task). At s i value (task_at s i u.name) (found z)) (some_same u task (sym there ∙ at))
    (subst (λ o. At s i value o (found u)) (sym (task_stands names f s i net state h spec within t u there)) there_five)

-- ---- what an item is given

value_there : (vals : Row) (v : Value) (o : Option Tree) → is_some_and o (λ e. is_none (val e vals)) ≡ false → (w : Value) × (value_or vals (Some v) o ≡ Some w)
value_there vals v None e = (v, refl)
value_there vals v (Some tree) e = found (val tree vals) e
  where
    found : (o : Option Value) → is_none o ≡ false → (w : Value) × (o ≡ Some w)
    found None e = cc
    found (Some w) e = (w, refl)

all_there : (vals : Row) (v : Value) (ps : List Param) → find (lacks_value vals) ps ≡ None → (row : Row) × (all_of (map (given_value vals (Some v)) ps) ≡ Some row)
all_there vals v [] e = ([], refl)
all_there vals v (p ∷ ps) e =
    by_test (lacks_value vals p)
    (λ (t : lacks_value vals p ≡ true). nowhere (sym e ∙ ap (λ (b : Bool). cond b (Some p) (find (lacks_value vals) ps)) t))
    (λ (t : lacks_value vals p ≡ false).
    let w = value_there vals v p.value t in
    let r = all_there vals v ps (sym (ap (λ (b : Bool). cond b (Some p) (find (lacks_value vals) ps)) t) ∙ e) in (
      w.0 ∷ r.0,
      ap (option_and_then (λ (x : Value). option_map (λ (xs : Row). x ∷ xs) (all_of (map (given_value vals (Some v)) ps)))) w.1 ∙ ap (option_map (λ (xs : Row). w.0 ∷ xs)) r.1,
    ))

-- where no parameter has an undefined expression, each has a value for an element
pub is_given : (task : Task) (vals : Row) (v : Value) → undefined_param task vals ≡ None → (row : Row) × (given_values task vals (Some v) ≡ Some row)
is_given task vals v e = all_there vals v task.ins (none_found (find (lacks_value vals) task.ins) e)
  where
    none_found : (o : Option Param) → option_map (λ (p : Param). p.name) o ≡ None → o ≡ None
    none_found None e = refl
    none_found (Some p) e = nowhere (sym e)
