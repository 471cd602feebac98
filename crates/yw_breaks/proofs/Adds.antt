-- What an addition breaks first behind the check that the case is quiet.
use Rattle.std.proofs.Common.{Bool, Err, List, None, Ok, Option, Some, [], ap, length, refl, subst, sym, ℕ, ◌+◌, ◌∙◌, ◌≡◌}
use Rattle.std.specs.Option.{option_or}
use Rattle.std.specs.Prelude.{codes, drop, is_none, nat_lt, not, option_and_then, option_map, slice_get, take, unwrap_or, if◌then◌else◌}
use Rattle.yw_base.specs.Identity.{number_end}
use Rattle.yw_base.specs.declared.value.Value.{Value}
use Rattle.yw_breaks.proofs.Asking.{add_asks}
use Rattle.yw_breaks.proofs.Held.{role_is}
use Rattle.yw_breaks.proofs.Joining.{then_rest}
use Rattle.yw_breaks.proofs.Rows.{broken_row, idle_row, place_row, rule_row}
use Rattle.yw_breaks.specs.Add.{AddBreaks, add_rule, is_dynamic, lacks_element, rest_fault, value_fault}
use Rattle.yw_breaks.specs.Events.{AddMakes}
use Rattle.yw_breaks.specs.Finds.{ByHeld, FindsNext}
use Rattle.yw_breaks.specs.Launch.{number_rule}
use Rattle.yw_breaks.specs.Nets.{IsTaskNamed}
use Rattle.yw_breaks.specs.Persons.{HasRoles, lacks_role}
use Rattle.yw_breaks.specs.Tables.{add_rest}
use Rattle.yw_library.specs.Held.{IsHeld}
use Rattle.yw_known.specs.Here.{IsNetHere, SaysNet}
use Rattle.yw_library.specs.Names.{names_of}
use Rattle.yw_known.specs.declared.here.NetHere.{NetHere}
use Rattle.yw_library.specs.Holdings.{Holdings}
use Rattle.yw_spec.specs.declared.task.Task.{Task}
use Rattle.yw_state.proofs.Tests.{some_same}
use Rattle.yw_state.specs.Broken.{First, has_role, is_spent, placed, placeless, undefined_in}
use Rattle.yw_state.specs.Given.{element_value}
use Rattle.yw_state.specs.Identity.{Ident}
use Rattle.yw_state.specs.Map.{get}
use Rattle.yw_state.specs.Options.{is_some_and}
use Rattle.yw_state.specs.State.{State, TaskAt, items_of, task_at}
use Rattle.yw_state.specs.Values.{Row}
use Rattle.yw_state.specs.Words as word
use Rattle.yw_state.specs.declared.event.Event.TheVariants as events
use Rattle.yw_state.specs.declared.rule.Refusal.{Refusal}
use Rattle.yw_state.specs.declared.rule.Rule.TheVariants as rules
use Rattle.yw_task.proofs.EnterAsk.{its_active, its_items, length_parts, net_with, task_stands}
use Rattle.yw_task.specs.Adds.{is_full, room_rule}
use Rattle.yw_task.specs.Asked.{is_active}
use Rattle.yw_task.specs.Completes.{or_else}
use Rattle.yw_task.specs.Giving.{undefined_param}
use Rattle.yw_task.specs.Items.{row_of}
use Rattle.yw_tree.specs.declared.Forest.{Forest}
use Rattle.yw_tree.specs.declared.NetState.{out-NetState}

pub unknown_task : (s : State) (who : List ℕ) (i : Ident) (name : List ℕ) (value : Option Value) → task_at s i name ≡ None
    → First (add_rest s who i name value) (Some (placeless rules.UnknownTask))
unknown_task s who i name value e = broken_row (is_none (task_at s i name)) (ap is_none e) rules.UnknownTask (drop 1 (add_rest s who i name value))

abbrev fixed : TaskAt → Bool
fixed x = not (is_dynamic x.task)

abbrev lacks : State → List ℕ → TaskAt → Bool
lacks s who x = not (has_role (unwrap_or (get s.persons who) []) x.task.role)

abbrev idle : State → Ident → TaskAt → Bool
idle s i x = not (word.active s i x.number)

abbrev full : State → Ident → TaskAt → Bool
full s i x = is_full x.task (length (items_of s i x.number))

abbrev bad_element : Option Value → TaskAt → Option (List ℕ)
bad_element value x = if lacks_element x.task value then Some (codes "value") else None

module _ (known : Holdings) (f : Forest) (s : State) (who : List ℕ) (roles : List (List ℕ)) (has : HasRoles known who roles) (i : Ident) (x : NetHere) (t next : ℕ) (task : Task) (h : IsHeld known f s) (drawn : s.next ≡ next) (here : IsNetHere known f s i x) (at : slice_get x.net.now.tasks t ≡ Some task) (value : Option Value) where
  there : task_at s i task.name ≡ Some (record { number = t; task = task; within = net_with (names_of known) x.net.now x.state.now })
  there = task_stands (names_of known) f s i x.net.now x.state.now here.stands x.spec.now here.within t task at

  told : (p : TaskAt → Bool) → is_some_and (task_at s i task.name) p ≡ p (record { number = t; task = task; within = net_with (names_of known) x.net.now x.state.now })
  told p = ap (λ o. is_some_and o p) there

  many : length (items_of s i t) ≡ length (row_of x.state.now t)
  many = ap length (its_items (names_of known) f s i x.net.now x.state.now here.stands t) ∙ length_parts (row_of x.state.now t)

  room : First (take 2 (drop 4 (add_rest s who i task.name value))) (option_map placeless (room_rule x.state.now task t))
  room =
      rule_row (is_some_and (task_at s i task.name) (idle s i)) (not (is_active x.state.now t)) (told (idle s i) ∙ ap not (its_active (names_of known) f s i x.net.now x.state.now here.stands t)) rules.Stage
      (take 1 (drop 5 (add_rest s who i task.name value))) (if is_full task (length (row_of x.state.now t)) then Some rules.MaxReached else None)
      (rule_row (is_some_and (task_at s i task.name) (full s i)) (is_full task (length (row_of x.state.now t))) (told (full s i) ∙ ap (is_full task) many) rules.MaxReached [] None refl)

  shown : First (take 5 (drop 1 (add_rest s who i task.name value))) (option_map placeless (add_rule roles x.state.now task t (word.held s i)))
  shown =
      let room_or_held = if word.held s i then Some rules.Held else room_rule x.state.now task t in
      rule_row (is_some_and (task_at s i task.name) fixed) (not (is_dynamic task)) (told fixed) rules.NotDynamic
      (take 4 (drop 2 (add_rest s who i task.name value))) (if lacks_role roles task then Some rules.Role else room_or_held)
      (rule_row (is_some_and (task_at s i task.name) (lacks s who)) (lacks_role roles task) (told (lacks s who) ∙ role_is known f s h who roles has task) rules.Role
      (take 3 (drop 3 (add_rest s who i task.name value))) room_or_held
      (rule_row (word.held s i) (word.held s i) refl rules.Held (take 2 (drop 4 (add_rest s who i task.name value))) (room_rule x.state.now task t) room))

  later : First (drop 6 (add_rest s who i task.name value)) (value_fault task (out-NetState x.state.now).vals value next)
  later =
      let vals = (out-NetState x.state.now).vals in
      place_row (option_and_then (bad_element value) (task_at s i task.name)) (if lacks_element task value then Some (codes "value") else None) (ap (option_and_then (bad_element value)) there) rules.BadData
      (drop 7 (add_rest s who i task.name value)) (option_or (option_map (placed rules.Mapping) (undefined_param task vals)) (option_map placeless (number_rule next)))
      (place_row (option_and_then undefined_in (task_at s i task.name)) (undefined_param task vals) (ap (option_and_then undefined_in) there) rules.Mapping
      (drop 8 (add_rest s who i task.name value)) (option_map placeless (number_rule next))
      (rule_row (is_spent s 1) (nat_lt number_end (next + 1)) (ap (λ n. nat_lt number_end (n + 1)) drawn) rules.Numbers [] None refl))

  adds_first : First (drop 1 (add_rest s who i task.name value))
      (or_else (value_fault task (out-NetState x.state.now).vals value next) (add_rule roles x.state.now task t (word.held s i)))
  adds_first =
      then_rest (take 5 (drop 1 (add_rest s who i task.name value))) (drop 6 (add_rest s who i task.name value)) (add_rule roles x.state.now task t (word.held s i))
      (value_fault task (out-NetState x.state.now).vals value next) shown (λ e. later)

  known_task : (found : Option Refusal) → First (drop 1 (add_rest s who i task.name value)) found → First (add_rest s who i task.name value) found
  known_task found g = idle_row (is_none (task_at s i task.name)) (ap is_none there) rules.UnknownTask (drop 1 (add_rest s who i task.name value)) found g

-- ---- whatever the state

module _ (f : Forest) (i : Ident) (roles : List (List ℕ)) (x : NetHere) (t : ℕ) (value : Option Value) (next : ℕ) where
  abbrev broken : Task → Bool → Option Refusal
  broken u held = or_else (value_fault u (out-NetState x.state.now).vals value next) (add_rule roles x.state.now u t held)

  add_breaks : (u : Task) → slice_get x.net.now.tasks t ≡ Some u → (found : Option Refusal) → ByHeld f i (λ held. found ≡ broken u held)
      → AddBreaks f i roles x t value next found
  add_breaks u mine found tells = λ known who has s task h drawn here at.
      let is : broken task (word.held s i) ≡ found = ap (λ (z : Task). broken z (word.held s i)) (sym (some_same u task (sym mine ∙ at))) ∙ sym (tells known s h) in
      subst (First (drop 1 (add_rest s who i task.name value))) is (adds_first known f s who roles has i x t next task h drawn here at value)

  -- by the task's name
  named_breaks : (name : List ℕ) → IsTaskNamed x.net.now name t → (found : Option Refusal) → AddBreaks f i roles x t value next found
      → (known : Holdings) (who : List ℕ) → HasRoles known who roles → SaysNet known f i x → FindsNext known f next (λ s. add_rest s who i name value) found
  named_breaks name is found breaks known who has says = λ s h drawn.
      let here = says s h in
      subst (λ n. First (add_rest s who i n value) found) is.named
      (known_task known f s who roles has i x t next is.task h drawn here is.at value found (breaks known who has s is.task h drawn here is.at))

  -- so is what is made of it
  module _ (name : List ℕ) (is : IsTaskNamed x.net.now name t) (u : Task) (mine : slice_get x.net.now.tasks t ≡ Some u) where
    pub add_refused : (refusal : Refusal) → ByHeld f i (λ held. Some refusal ≡ broken u held) → AddMakes f roles x next i name value (Err refusal)
    add_refused refusal tells = named_breaks name is (Some refusal) (add_breaks u mine (Some refusal) tells)

    pub add_made : ByHeld f i (λ held. None ≡ broken u held) → (v : Value) → element_value u value ≡ Some v
        → AddMakes f roles x next i name value (Ok (events.Add i name v next))
    add_made tells v element = λ known who has says. (
      named_breaks name is None (add_breaks u mine None tells) known who has says,
      λ s h drawn. add_asks known f s h i value x (says s h) name t is u mine v element next drawn who,
    )

-- ---- the value

module _ (task : Task) (vals : Row) (value : Option Value) (next : ℕ) where
  pub without_element : element_value task value ≡ None → value_fault task vals value next ≡ Some (placed rules.BadData (codes "value"))
  without_element e =
      ap (λ (o : Option Value). option_or (option_map (placed rules.BadData) (if is_none o then Some (codes "value") else None)) (rest_fault task vals next)) e

  pub with_element : (v : Value) → element_value task value ≡ Some v → value_fault task vals value next ≡ rest_fault task vals next
  with_element v e =
      ap (λ (o : Option Value). option_or (option_map (placed rules.BadData) (if is_none o then Some (codes "value") else None)) (rest_fault task vals next)) e
