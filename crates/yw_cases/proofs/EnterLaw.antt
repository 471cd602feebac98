-- A task is entered, and gets items.
use Rattle.std.proofs.Common.{List, ap, arith, length, refl, subst, sym, ◌+◌, ◌<◌, ◌∙◌, ◌≤◌}
use Rattle.std.proofs.lemmas.Bool.{leb-true}
use Rattle.std.specs.Prelude.{Option, Some, [], false, slice_get, true, unwrap_or, ℕ, ◌≡◌}
use Rattle.yw_accepted.proofs.Loaded.{accepted_are_sound, accepted_are_within}
use Rattle.yw_base.specs.Identity.{most_numbers, number_end}
use Rattle.yw_cases.proofs.EntryLaw.{Entering, enter_as, entering, its_entry, task_by, unheld_by}
use Rattle.yw_cases.proofs.TaskHere.{its, named, named_so, numbered_by, task_known}
use Rattle.yw_cases.proofs.Trying.{done, words_of}
use Rattle.yw_cases.specs.State.{MayStand}
use Rattle.yw_invariant.proofs.Levels.{net_is_short}
use Rattle.yw_known.specs.Here.{as_net_at}
use Rattle.yw_library.specs.Names.{names_of}
use Rattle.yw_known.specs.declared.known.KnownNet.{KnownNet}
use Rattle.yw_mark.specs.Taking.{taken_places}
use Rattle.yw_mark.specs.declared.join.Taken.{Taken}
use Rattle.yw_standing.proofs.Trying.{placed_next}
use Rattle.yw_standing.specs.Here.{IsNetKnown, with_state}
use Rattle.yw_standing.specs.State.{state_of}
use Rattle.yw_standing.specs.Tried.{IsDone, LeadsOn}
use Rattle.yw_standing.specs.declared.standing.Standing.{Standing}
use Rattle.yw_texts.specs.Texts.{reader}
use Rattle.yw_spec.specs.declared.spec.Place.{Place}
use Rattle.yw_spec.specs.declared.task.Task.{Task}
use Rattle.yw_state.proofs.Tests.{is_not, some_same, there_and}
use Rattle.yw_state.specs.After.{enter, where_some, with_next}
use Rattle.yw_state.specs.Allowed.{Allowed, may_enter, place_numbers}
use Rattle.yw_state.specs.Events.{after}
use Rattle.yw_state.specs.Identity.{Ident}
use Rattle.yw_state.specs.Nets.{task_number}
use Rattle.yw_state.specs.State.{NetAt, State, TaskAt, net_at, no_checks, task_at}
use Rattle.yw_state.specs.Texts.{nothing}
use Rattle.yw_state.specs.Values.{Row}
use Rattle.yw_state.specs.Words.{active, held}
use Rattle.yw_state.specs.declared.event.Event.TheVariants as events
use Rattle.yw_steps.proofs.FromState.{may_get}
use Rattle.yw_steps.specs.Enters.{AreEntryRowsAt, Enters, MayComeAt, StandsFor}
use Rattle.yw_steps.specs.Stands.{MayGetItems, TaskMayGrow}
use Rattle.yw_task.proofs.EnterAsk.{its_active}
use Rattle.yw_task.specs.Due.{AreDue}
use Rattle.yw_task.specs.Enters.{MayCome}
use Rattle.yw_task.specs.Giving.{entry_rows}
use Rattle.yw_tree.proofs.Removed.{within}
use Rattle.yw_tree.specs.declared.Forest.{Forest}
use Rattle.yw_tree.specs.declared.NetState.{NetState, out-NetState}
use Rattle.yw_walk.specs.Computed.{EntryTakes}
use Rattle.yw_within.proofs.Finding.{well_holds_within}
use Rattle.yw_within.specs.Within.{HoldsWithin}

-- ---- what a task that gets items needs of the state

module _ (old : Standing) (may : MayStand old) where
  holds_within : HoldsWithin (state_of old)
  holds_within = well_holds_within reader (state_of old) accepted_are_within may.held.well

  checks_are : (i : Ident) (name : List ℕ) → AreDue (state_of old) i name no_checks
  checks_are i name = λ x there. sym ((words_of old may).item_due x)

  short_enough : (i : Ident) (n : NetAt) → net_at (state_of old) i ≡ Some n → length i < most_numbers
  short_enough i n at = let short = net_is_short reader (state_of old) may.held.well accepted_are_sound i n at in omega (arith, short)

  module _ (i : Ident) (w : KnownNet) (known : IsNetKnown old.known old.forest (state_of old) i w) (t : ℕ) (task : Task) (of_net : slice_get w.net.now.tasks t ≡ Some task) where
    pub task_grows : TaskMayGrow old.forest w.net.now i t
    task_grows =
        record {
          state = known.state.now;
          found = known.here.stands.found;
          task = within w.net.now.tasks t task of_net;
          room = short_enough i (as_net_at old.known (with_state w known.state)) known.here.at;
        }

    pub gets_items : (first : ℕ) → first ≡ (state_of old).next → MayGetItems w.net.now i first no_checks task (state_of old)
    gets_items first next =
        subst (λ k. MayGetItems w.net.now i k no_checks task (state_of old)) (sym next)
        (may_get (state_of old) may.held.well.numbers holds_within i (as_net_at old.known (with_state w known.state)) task no_checks known.here.at (checks_are i task.name))

-- ---- where an entry is allowed

module _ (old : Standing) (may : MayStand old) (i : Ident) (name : List ℕ) (places : List Place) (first count : ℕ) (leads : LeadsOn old (events.Enter i name places first count)) where
  abbrev s : State
  s = state_of old

  enter_allowed : Allowed s (events.Enter i name places first count) nothing
  enter_allowed =
      (enter_as old may i name places first count nothing ∙ sym (enter_as old may i name places first count leads.1.said) ∙ leads.1.allowed.0, leads.1.allowed.1)

  pub entered_task : (x : TaskAt) × (task_at s i name ≡ Some x) × (may_enter s i places first count x ≡ true)
  entered_task = there_and (task_at s i name) (may_enter s i places first count) (task_by old may i name places first count leads.0 leads.1)

  unheld : held s i ≡ false
  unheld = unheld_by old may i name places first count leads.0 leads.1

  module _ (w : KnownNet) (known : IsNetKnown old.known old.forest s i w) (t : ℕ) (taken : Taken) (rows : List Row) (takes : EntryTakes s i name places t taken rows) where
    pub entry_number : task_number w.net.now name ≡ Some t
    entry_number = numbered_by old i (with_state w known.state) known.here name takes.of_task takes.named t takes.number

    pub entry_task : (task : Task) × (slice_get w.net.now.tasks t ≡ Some task)
    entry_task = task_known old i name takes.of_task takes.named w known t entry_number

  module _ (w : KnownNet) (known : IsNetKnown old.known old.forest s i w) (t : ℕ) (number : task_number w.net.now name ≡ Some t) (task : Task)
      (of_net : slice_get w.net.now.tasks t ≡ Some task) where
    abbrev x : TaskAt
    x = its old i (with_state w known.state) known.here name t number task of_net

    there : task_at s i name ≡ Some x
    there = named old i (with_state w known.state) known.here name t number task of_net

    its_name : task.name ≡ name
    its_name = named_so w.net.now t task name of_net number

    abbrev facts : Entering old may i name places first count (with_state w known.state) known.here t number task of_net unheld
    facts =
        entering old may i name places first count (with_state w known.state) known.here t number task of_net unheld
        (its_entry old may i name places first count (with_state w known.state) known.here t number task of_net unheld leads.0 leads.1)

    pub room_there : first + count ≤ number_end
    room_there = leb-true (first + count) number_end facts.room

    pub first_some : 1 ≤ first
    first_some = subst (λ k. 1 ≤ k) (sym facts.same) may.held.well.numbers.least

    many_rows : length (entry_rows task (out-NetState known.state.now).vals) ≡ count
    many_rows = ap (λ (o : Option (List Row)). length (unwrap_or o [])) facts.made ∙ facts.as_many

    pub may_come : MayComeAt old.forest w.net.now i t first
    may_come = λ state found.
        subst (λ (z : NetState). MayCome w.net.now z t first) (some_same known.state.now state (sym known.here.stands.found ∙ found))
        (record {
          task = task;
          of_net = of_net;
          idle = sym (its_active (names_of old.known) old.forest s i w.net.now known.state.now known.here.stands t) ∙ is_not (active s i t) facts.idle;
          numbers = subst (λ k. first + k ≤ number_end) (sym many_rows) room_there;
        })

    -- ---- it is done

    abbrev Needs : State → Type 0
    Needs = MayGetItems w.net.now i first no_checks task

    needs : Needs s
    needs = gets_items old may i w known t task of_net first facts.same

    pub rows_there : (taken : Taken) (rows : List Row) → EntryTakes s i name places t taken rows → AreEntryRowsAt old.forest w.net.now i t rows
    rows_there taken rows takes = λ state found u at.
        takes.gives ∙ ap (λ (z : TaskAt). entry_rows z.task z.within.part.vals) (some_same takes.of_task x (sym takes.named ∙ there))
        ∙ ap (λ (v : Task). entry_rows v (out-NetState known.state.now).vals) (some_same task u (sym of_net ∙ at))
        ∙ ap (λ (z : NetState). entry_rows u (out-NetState z).vals) (some_same known.state.now state (sym known.here.stands.found ∙ found))

    stands : (taken : Taken) (rows : List Row) → EntryTakes s i name places t taken rows → StandsFor old.forest i w.net.now task taken places
    stands taken rows takes =
        record {
          state = known.state.now;
          found = known.here.stands.found;
          numbers = subst
              (λ (z : TaskAt). place_numbers z.within.net places ≡ Some (taken_places z.within.part.tokens z.task.before taken))
              (some_same takes.of_task x (sym takes.named ∙ there)) takes.takes;
        }

    -- the number drawn next is past so many
    next_is : (c k : ℕ) (z : State) → after s (events.Enter i name places first c) nothing ≡ z → z.next ≡ first + k → k ≡ count
    unfolding after
    next_is c k z is next =
        let drawn : first + length (entry_rows task (out-NetState known.state.now).vals) ≡ first + k =
        sym (ap (λ (o : Option TaskAt). (where_some o s (enter s i places first)).next) there) ∙ ap (λ (y : State). y.next) is ∙ next in
        let many = many_rows in
        omega (arith, drawn, many)

    pub entered : (taken : Taken) (rows : List Row) → EntryTakes s i name places t taken rows → (f : Forest) (c : ℕ) → Enters w.net.now i t taken first no_checks old.forest f c
        → IsDone old (events.Enter i name places first count) (record old { forest = f; next = first + count })
    entered taken rows takes f c does =
        let so = does task places of_net (stands taken rows takes) (names_of old.known) s may.held.sites needs in
        let on = so.leads (names_of old.known) s nothing may.held.sites needs in
        let same : c ≡ count =
        next_is c c _ (ap (λ n. after s (events.Enter i n places first c) nothing) (sym its_name) ∙ on) refl in
        done old may (λ names. events.Enter i task.name places first c) (λ names. Needs) (λ z. with_next z (first + c))
        (events.Enter i name places first count) (record old { forest = f; next = first + count }) so needs (λ j. events.Enter i (its_name j) places first (same j))
        (placed_next old f (first + c) ∙ ap (λ k. let h : Standing = record old { forest = f; next = first + k } in state_of h) same) refl enter_allowed
