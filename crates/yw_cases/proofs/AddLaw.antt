-- An item is added to a task.
use Rattle.std.proofs.Common.{ap, arith, length, refl, subst, sym, ◌∙◌, ◌≤◌}
use Rattle.std.proofs.Math.Bool.{and-false, and-true}
use Rattle.std.proofs.lemmas.Bool.{and_parts, eqb-true, leb-true}
use Rattle.std.specs.Prelude.{Bool, List, None, Option, Some, [], cond, false, find, is_none, is_some, map, nat_le, nat_lt, not, option_map, slice_get, true, ℕ, ◌&&◌, ◌+◌, ◌==◌, ◌∷◌, ◌≡◌}
use Rattle.yw_base.specs.Identity.{number_end}
use Rattle.yw_base.specs.Values.{may_hold}
use Rattle.yw_base.specs.declared.value.Value.{Value}
use Rattle.yw_cases.proofs.Allows.{only_clear}
use Rattle.yw_cases.proofs.EnterLaw.{gets_items}
use Rattle.yw_cases.proofs.TaskHere.{its, named, named_so}
use Rattle.yw_cases.proofs.Trying.{done, stands_well, words_of}
use Rattle.yw_cases.specs.Adding.{has_room, may_grow, takes_element}
use Rattle.yw_cases.specs.State.{MayStand}
use Rattle.yw_expr.specs.Meaning.{val}
use Rattle.yw_expr.specs.Tree.{Tree}
use Rattle.yw_known.specs.Here.{IsNetHere, as_net_at}
use Rattle.yw_library.specs.Names.{names_of}
use Rattle.yw_known.specs.declared.here.NetHere.{NetHere}
use Rattle.yw_known.specs.declared.known.KnownNet.{KnownNet}
use Rattle.yw_spec.specs.declared.task.Many.{Many}
use Rattle.yw_spec.specs.declared.task.Param.{Param}
use Rattle.yw_spec.specs.declared.task.Task.{Task}
use Rattle.yw_standing.proofs.Trying.{fails, leads_plainly, next_is, placed_next}
use Rattle.yw_standing.specs.Here.{IsNetKnown, with_state}
use Rattle.yw_standing.specs.State.{state_of}
use Rattle.yw_standing.specs.Tried.{IsDone, LeadsOn, TellsLeads}
use Rattle.yw_standing.specs.declared.standing.Standing.{Standing}
use Rattle.yw_state.proofs.Tests.{and_right, by_option, map_some, nowhere, some_same, then_some, there_and}
use Rattle.yw_state.specs.After.{with_next}
use Rattle.yw_state.specs.Allowed.{allows, element_param, is_next, may_add}
use Rattle.yw_state.specs.Identity.{Ident}
use Rattle.yw_state.specs.Nets.{task_number}
use Rattle.yw_state.specs.Options.{all_of, is_some_and}
use Rattle.yw_state.specs.Passing.{given_value, given_values}
use Rattle.yw_state.specs.State.{State, TaskAt, items_of, no_checks, task_at}
use Rattle.yw_state.specs.Texts.{Said, nothing}
use Rattle.yw_state.specs.Values.{Row}
use Rattle.yw_state.specs.Words.{active, held}
use Rattle.yw_state.specs.declared.event.Event.TheVariants as events
use Rattle.yw_steps.proofs.FromState.{come_before}
use Rattle.yw_steps.specs.Adds.{AddsElement, MayComeMoreAt}
use Rattle.yw_steps.specs.Stands.{ComeBefore, MayGetItems}
use Rattle.yw_task.proofs.AddTable.{is_given}
use Rattle.yw_task.proofs.EnterAsk.{its_active, its_items, length_parts}
use Rattle.yw_task.specs.Adds.{MayComeMore}
use Rattle.yw_task.specs.Giving.{lacks_value}
use Rattle.yw_tree.specs.Shows.{items_in}
use Rattle.yw_tree.specs.declared.Forest.{Forest}
use Rattle.yw_tree.specs.declared.NetState.{NetState, out-NetState}

-- ---- what an item is given

defined_there : (vals : Row) (element : Option Value) (v : Value) (o : Option Tree) → given_value vals element o ≡ Some v → is_some_and o (λ e. is_none (val e vals)) ≡ false
defined_there vals element v None e = refl
defined_there vals element v (Some z) e = ap is_none e

none_lacks : (vals : Row) (element : Option Value) (ps : List Param) (given : Row) → all_of (map (λ (p : Param). given_value vals element p.value) ps) ≡ Some given
    → find (lacks_value vals) ps ≡ None
none_lacks vals element [] given e = refl
none_lacks vals element (p ∷ ps) given e =
    let v = then_some (λ (x : Value). option_map (λ (xs : Row). x ∷ xs) (all_of (map (λ (q : Param). given_value vals element q.value) ps))) (given_value vals element p.value) given e in
    let rest = map_some (λ (xs : Row). v.0 ∷ xs) (all_of (map (λ (q : Param). given_value vals element q.value) ps)) given v.2 in
    ap (λ b. cond b (Some p) (find (lacks_value vals) ps)) (defined_there vals element v.0 p.value v.1) ∙ none_lacks vals element ps rest.0 rest.1

-- an item is given something for an element exactly where no parameter lacks a value
given_where : (task : Task) (vals : Row) (v : Value) → is_some (given_values task vals (Some v)) ≡ is_none (find (lacks_value vals) task.ins)
given_where task vals v =
    by_option (find (lacks_value vals) task.ins)
    (λ none.
    let given = is_given task vals v (ap (option_map (λ (p : Param). p.name)) none) in
    ap (λ (o : Option Row). is_some o) given.1 ∙ sym (ap (λ (o : Option Param). is_none o) none))
    (λ p lacks.
    by_option (given_values task vals (Some v))
    (λ none. ap (λ (o : Option Row). is_some o) none ∙ sym (ap (λ (o : Option Param). is_none o) lacks))
    (λ row given. nowhere (sym (none_lacks vals (Some v) task.ins row given) ∙ lacks)))

-- ---- whether it is allowed

module _ (old : Standing) (may : MayStand old) (i : Ident) (name : List ℕ) (value : Value) (n : ℕ) where
  abbrev s : State
  s = state_of old

  abbrev drawn : Bool
  drawn = n == old.next && nat_le (n + 1) number_end

  -- the task may have such an item, and nothing holds work there
  abbrev grows : Bool
  grows = not (held s i) && is_some_and (task_at s i name) (may_add s i value)

  abbrev may_be_added : Bool
  may_be_added = grows && drawn

  add_as : (said : Said) → allows s (events.Add i name value n) said ≡ may_be_added
  unfolding allows
  add_as said =
      ap (λ b. b && is_next s n) (only_clear s (words_of old may) i (is_some_and (task_at s i name) (may_add s i value)))
      ∙ ap (λ k. grows && (n == k && nat_le (n + 1) number_end)) (next_is old)

  tells_add : (b : Bool) → may_be_added ≡ b → TellsLeads old (events.Add i name value n) b
  tells_add true e = leads_plainly old (events.Add i name value n) refl (add_as nothing ∙ e, tt)
  tells_add false e = fails old (events.Add i name value n) (λ said. add_as said ∙ e)

  pub not_next : drawn ≡ false → TellsLeads old (events.Add i name value n) false
  not_next e = tells_add false (ap (λ b. grows && b) e ∙ and-false grows)

  pub held_back : held s i ≡ true → TellsLeads old (events.Add i name value n) false
  held_back is = tells_add false (ap (λ b. not b && is_some_and (task_at s i name) (may_add s i value) && drawn) is)

  pub no_task : task_at s i name ≡ None → TellsLeads old (events.Add i name value n) false
  no_task none =
      tells_add false (ap (λ o. not (held s i) && is_some_and o (may_add s i value) && drawn) none ∙ ap (λ b. b && drawn) (and-false (not (held s i))))

  module _ (w : NetHere) (here : IsNetHere old.known old.forest s i w) (t : ℕ) (number : task_number w.net.now name ≡ Some t) (task : Task)
      (of_net : slice_get w.net.now.tasks t ≡ Some task) where
    abbrev x : TaskAt
    x = its old i w here name t number task of_net

    count_is : length (items_of s i t) ≡ length (items_in w.state.now t)
    count_is = ap length (its_items (names_of old.known) old.forest s i w.net.now w.state.now here.stands t) ∙ length_parts (items_in w.state.now t)

    grows_as : may_add s i value x ≡ may_grow w.state.now task t value
    grows_as = λ j.
        its_active (names_of old.known) old.forest s i w.net.now w.state.now here.stands t j && has_room task (count_is j) && takes_element task value
        && given_where task (out-NetState w.state.now).vals value j

    pub tells_growth : held s i ≡ false → drawn ≡ true → (b : Bool) → b ≡ may_grow w.state.now task t value → TellsLeads old (events.Add i name value n) b
    tells_growth unheld next b is =
        tells_add b (ap (λ h. not h && is_some_and (task_at s i name) (may_add s i value) && drawn) unheld
        ∙ ap (λ o. is_some_and o (may_add s i value) && drawn) (named old i w here name t number task of_net)
        ∙ ap (λ d. may_add s i value x && d) next ∙ and-true (may_add s i value x) ∙ grows_as ∙ sym is)

  -- ---- where it is allowed

  module _ (leads : LeadsOn old (events.Add i name value n)) where
    both : (grows ≡ true) × (drawn ≡ true)
    both = and_parts grows drawn (sym (add_as leads.1.said) ∙ leads.1.allowed.0)

    added_task : (y : TaskAt) × (task_at s i name ≡ Some y) × (may_add s i value y ≡ true)
    added_task = there_and (task_at s i name) (may_add s i value) (and_right (not (held s i)) (is_some_and (task_at s i name) (may_add s i value)) both.0)

    number_is : n ≡ s.next
    number_is = eqb-true n old.next (and_parts (n == old.next) (nat_le (n + 1) number_end) both.1).0 ∙ sym (next_is old)

    pub room_there : n + 1 ≤ number_end
    room_there = leb-true (n + 1) number_end (and_parts (n == old.next) (nat_le (n + 1) number_end) both.1).1

    pub number_some : 1 ≤ n
    number_some = subst (λ k. 1 ≤ k) (sym number_is) may.held.well.numbers.least

    module _ (w : KnownNet) (known : IsNetKnown old.known old.forest s i w) (t : ℕ) (number : task_number w.net.now name ≡ Some t) where
      pub come_below : ComeBefore old.forest i t n
      come_below =
          subst (ComeBefore old.forest i t) (sym number_is)
          (come_before (names_of old.known) old.forest s (stands_well old may) i (as_net_at old.known (with_state w known.state)) t known.here.at)

      module _ (task : Task) (of_net : slice_get w.net.now.tasks t ≡ Some task) where
        abbrev mine : TaskAt
        mine = its old i (with_state w known.state) known.here name t number task of_net

        may_be_given : may_add s i value mine ≡ true
        may_be_given =
            subst (λ (y : TaskAt). may_add s i value y ≡ true) (some_same added_task.0 mine (sym added_task.1 ∙ named old i (with_state w known.state) known.here name t number task of_net)) added_task.2

        given_there : is_some (given_values task (out-NetState known.state.now).vals (Some value)) ≡ true
        given_there =
            (and_parts (active s i t && is_some_and task.many (λ (m : Many). m.dynamic && nat_lt (length (items_of s i t)) m.max) && is_some_and (element_param task) (λ (p : Param). may_hold p.sort value))
            (is_some (given_values task (out-NetState known.state.now).vals (Some value))) may_be_given).1

        pub may_come_more : MayComeMoreAt old.forest w.net.now i t value n
        may_come_more = λ state found.
            let room = room_there in
            subst (λ (z : NetState). MayComeMore w.net.now z t value n) (some_same known.state.now state (sym known.here.stands.found ∙ found))
            (record { task = task; of_net = of_net; given = given_there; number = omega (arith, room) })

        its_name : task.name ≡ name
        its_name = named_so w.net.now t task name of_net number

        pub added : (f : Forest) → AddsElement w.net.now i t value n no_checks old.forest f → IsDone old (events.Add i name value n) (record old { forest = f; next = n + 1 })
        added f does =
            let needs = gets_items old may i w known t task of_net n number_is in
            done old may (λ k. events.Add i task.name value n) (λ k z. MayGetItems w.net.now i n no_checks task z) (λ z. with_next z (n + 1)) (events.Add i name value n)
            (record old { forest = f; next = n + 1 }) (does task of_net (names_of old.known) s may.held.sites needs) needs (ap (λ k. events.Add i k value n) its_name)
            (placed_next old f (n + 1)) refl (add_as nothing ∙ sym (add_as leads.1.said) ∙ leads.1.allowed.0, tt)
