-- A task exits.
use Rattle.std.proofs.Common.{ap, length, refl, subst, sym, ◌<◌, ◌∙◌}
use Rattle.std.proofs.Math.Bool.{and-false}
use Rattle.std.proofs.lemmas.Bool.{and_from, and_parts}
use Rattle.std.specs.Cmp.Lexicographic.{pointwise}
use Rattle.std.specs.List.{list_all}
use Rattle.std.specs.Prelude.{Bool, IsSome, List, None, Some, false, fold, is_some, nat_eq, not, slice_get, true, ℕ, ◌&&◌, ◌≡◌}
use Rattle.yw_cases.proofs.Allows.{clear_there, only_clear}
use Rattle.yw_cases.proofs.TaskHere.{its, named, named_so, numbered, numbered_by, task_known}
use Rattle.yw_cases.proofs.Trying.{done, words_of}
use Rattle.yw_cases.specs.State.{MayStand}
use Rattle.yw_cases.specs.Tried.{MayAct}
use Rattle.yw_enabled.proofs.LeaveLaw.{values_are}
use Rattle.yw_enabled.specs.Free.{StandsFree}
use Rattle.yw_enabled.specs.Left.{IsLeavingAs, LeavesWith}
use Rattle.yw_expr.specs.Rows.{put_in}
use Rattle.yw_known.specs.Here.{IsNetHere, as_net_at}
use Rattle.yw_library.specs.Names.{names_of}
use Rattle.yw_known.specs.declared.here.NetHere.{NetHere}
use Rattle.yw_known.specs.declared.known.KnownNet.{KnownNet}
use Rattle.yw_standing.proofs.Trying.{fails, leads_plainly, placed}
use Rattle.yw_standing.specs.Here.{IsNetKnown, with_state}
use Rattle.yw_standing.specs.State.{state_of}
use Rattle.yw_standing.specs.Tried.{IsDone, LeadsNowhere, LeadsOn}
use Rattle.yw_standing.specs.declared.standing.Standing.{Standing}
use Rattle.yw_texts.specs.Texts.{reader}
use Rattle.yw_nest.specs.Does.{all_else}
use Rattle.yw_spec.specs.declared.spec.Place.{Place}
use Rattle.yw_spec.specs.declared.task.Task.{Task}
use Rattle.yw_state.proofs.Tests.{and_left, and_right, is_not, never, same_numbers, some_same, there_and}
use Rattle.yw_state.specs.Allowed.{Allowed, allows, exit_values, has_room_for, may_exit, may_leave, place_numbers, puts_on}
use Rattle.yw_state.specs.Events.{Leads}
use Rattle.yw_state.specs.Identity.{Ident}
use Rattle.yw_state.specs.Judged.{case_place}
use Rattle.yw_state.specs.Nets.{task_number}
use Rattle.yw_state.specs.Options.{is_some_and}
use Rattle.yw_state.specs.Passing.{kept_values, split_places}
use Rattle.yw_state.specs.State.{State, TaskAt, task_at}
use Rattle.yw_state.specs.Texts.{Said, nothing}
use Rattle.yw_state.specs.Words.{active, clear, held}
use Rattle.yw_state.specs.declared.event.Event.TheVariants as events
use Rattle.yw_state.specs.declared.tree.TreeKind.TheVariants.{Post}
use Rattle.yw_steps.specs.Exits.{Exits, IsOutcomeIn, MayExit}
use Rattle.yw_steps.specs.Stands.{NetIs}
use Rattle.yw_still.specs.Still.{is_leaving}
use Rattle.yw_task.specs.Leaving.{IsOutcome}
use Rattle.yw_task.specs.Making.{rows_made}
use Rattle.yw_task.specs.declared.exits.Outcome.{Outcome}
use Rattle.yw_tree.proofs.Removed.{within}
use Rattle.yw_tree.specs.Places.{net_at as net_found}
use Rattle.yw_tree.specs.Shows.{items_in}
use Rattle.yw_tree.specs.declared.Forest.{Forest}
use Rattle.yw_tree.specs.declared.NetState.{NetState, out-NetState}
use Rattle.yw_walk.specs.Computed.{ExitLeaves}
use Rattle.yw_walk.specs.declared.found.Computed.TheVariants as computed

module _ (old : Standing) (may : MayStand old) (i : Ident) (name : List ℕ) (places : List Place) where
  abbrev s : State
  s = state_of old

  -- its task may exit so
  abbrev its_task : Bool
  its_task = is_some_and (task_at s i name) (may_exit s i places)

  exit_as : (said : Said) → allows s (events.Exit i name places) said ≡ (not (held s i) && its_task)
  unfolding allows
  exit_as said = only_clear s (words_of old may) i its_task

  -- where it is allowed, work isn't held, and its task may exit
  unheld_by : (z : State) → Leads reader s (events.Exit i name places) z → held s i ≡ false
  unheld_by z leads = is_not (held s i) (and_left (not (held s i)) its_task (sym (exit_as leads.said) ∙ leads.allowed.0))

  task_by : (z : State) → Leads reader s (events.Exit i name places) z → its_task ≡ true
  task_by z leads = and_right (not (held s i)) its_task (sym (exit_as leads.said) ∙ leads.allowed.0)

  pub held_back : held s i ≡ true → LeadsNowhere old (events.Exit i name places)
  held_back is = fails old (events.Exit i name places) (λ said. exit_as said ∙ ap (λ b. not b && its_task) is)

  pub no_task : task_at s i name ≡ None → LeadsNowhere old (events.Exit i name places)
  no_task none =
      fails old (events.Exit i name places)
      (λ said. exit_as said ∙ ap (λ o. not (held s i) && is_some_and o (may_exit s i places)) none ∙ and-false (not (held s i)))

  module _ (w : NetHere) (here : IsNetHere old.known old.forest s i w) (t : ℕ) (number : task_number w.net.now name ≡ Some t) (task : Task)
      (of_net : slice_get w.net.now.tasks t ≡ Some task) (unheld : held s i ≡ false) where
    abbrev x : TaskAt
    x = its old i w here name t number task of_net

    abbrev split : List ℕ
    split = split_places task (exit_values s i x)

    -- these are the numbers of its places
    abbrev has_numbers : List ℕ → Bool
    has_numbers ds = is_some_and (place_numbers w.net.now places) (λ cs. pointwise nat_eq cs ds)

    -- nothing holds work there
    clear_here : clear s i ≡ true
    clear_here = clear_there s (words_of old may) i unheld

    free_there : StandsFree (names_of old.known) old.forest s i w.net.now w.state.now
    free_there = record { stands = here.stands; numbers = may.held.well.numbers; free = clear_here }

    leaving : (b : Bool) → IsLeavingAs w.net.now w.state.now t b → is_leaving s i x ≡ b
    leaving b is = is (names_of old.known) old.forest s i x free_there (numbered old i w here name t number task of_net)

    -- the values that the assignments leave, read off the boxes
    kept_there : exit_values s i x ≡ kept_values task (rows_made (items_in w.state.now t)) (out-NetState w.state.now).vals
    kept_there = values_are (names_of old.known) old.forest s i w.net.now w.state.now free_there t task

    -- what an exit that is allowed tells
    exits_so : may_exit s i places x ≡ true → (is_leaving s i x ≡ true) × (has_numbers split ≡ true)
    exits_so e =
        let both = and_parts (active s i t && may_leave s i x) (is_some_and (place_numbers w.net.now places) (puts_on s i x)) e in
        let two = and_parts (active s i t) (may_leave s i x) both.0 in
        let put = there_and (place_numbers w.net.now places) (puts_on s i x) both.1 in
        let parts = and_parts (pointwise nat_eq put.0 split) (list_all (has_room_for s i x) put.0) put.2 in
        let room : list_all (has_room_for s i x) split ≡ true = subst (λ cs. list_all (has_room_for s i x) cs ≡ true) (same_numbers put.0 split parts.0) parts.1 in (
          and_from (clear s i && active s i t && may_leave s i x) (list_all (has_room_for s i x) split)
              (and_from (clear s i && active s i t) (may_leave s i x) (and_from (clear s i) (active s i t) clear_here two.0) two.1) room,
          ap (λ o. is_some_and o (λ cs. pointwise nat_eq cs split)) put.1 ∙ parts.0,
        )

    its_exit : (z : State) → Leads reader s (events.Exit i name places) z → may_exit s i places x ≡ true
    its_exit z leads =
        let found = there_and (task_at s i name) (may_exit s i places) (task_by z leads) in
        subst (λ (y : TaskAt). may_exit s i places y ≡ true) (some_same found.0 x (sym found.1 ∙ named old i w here name t number task of_net)) found.2

    pub not_leaving : IsLeavingAs w.net.now w.state.now t false → LeadsNowhere old (events.Exit i name places)
    not_leaving is z leads = never (sym (leaving false is) ∙ (exits_so (its_exit z leads)).0)

    -- where the task may be left, the places decide
    module _ (out : Outcome) (left : LeavesWith w.net.now w.state.now t out) where
      split_is : out.places ≡ split
      split_is = let is = left.outcome task of_net in is.places ∙ ap (split_places task) (sym kept_there)

      pub not_split : has_numbers out.places ≡ false → LeadsNowhere old (events.Exit i name places)
      not_split is z leads = never (sym is ∙ ap has_numbers split_is ∙ (exits_so (its_exit z leads)).1)

      allowed_here : has_numbers out.places ≡ true → Allowed s (events.Exit i name places) nothing
      allowed_here splits =
          let parts = and_parts (clear s i && active s i t && may_leave s i x) (list_all (has_room_for s i x) split) (leaving true left.leaves) in
          let two = and_parts (clear s i && active s i t) (may_leave s i x) parts.0 in
          let put = there_and (place_numbers w.net.now places) (λ cs. pointwise nat_eq cs split) (ap has_numbers (sym split_is) ∙ splits) in
          let room : list_all (has_room_for s i x) put.0 ≡ true = subst (λ cs. list_all (has_room_for s i x) cs ≡ true) (sym (same_numbers put.0 split put.2)) parts.1 in
          let puts : is_some_and (place_numbers w.net.now places) (puts_on s i x) ≡ true =
          ap (λ o. is_some_and o (puts_on s i x)) put.1 ∙ and_from (pointwise nat_eq put.0 split) (list_all (has_room_for s i x) put.0) put.2 room in
          let exits : may_exit s i places x ≡ true =
          and_from (active s i t && may_leave s i x) (is_some_and (place_numbers w.net.now places) (puts_on s i x))
          (and_from (active s i t) (may_leave s i x) (and_right (clear s i) (active s i t) two.0) two.1) puts in (
            exit_as nothing ∙ ap (λ b. not b && its_task) unheld
                ∙ ap (λ o. is_some_and o (may_exit s i places)) (named old i w here name t number task of_net) ∙ exits,
            tt,
          )

      pub exits_by : has_numbers out.places ≡ true → MayAct old (events.Exit i name places) (computed.Exit t out)
      exits_by splits = record {
        leads = leads_plainly old (events.Exit i name places) refl (allowed_here splits);
        computed = record {
          of_task = x;
          named = named old i w here name t number task of_net;
          number = refl;
          values = (let is = left.outcome task of_net in is.values ∙ sym kept_there);
          places = split_is;
        };
      }

-- ---- it is done, where it is allowed

module _ (old : Standing) (may : MayStand old) (i : Ident) (name : List ℕ) (places : List Place) (leads : LeadsOn old (events.Exit i name places)) where
  exit_allowed : Allowed (state_of old) (events.Exit i name places) nothing
  exit_allowed = (exit_as old may i name places nothing ∙ sym (exit_as old may i name places leads.1.said) ∙ leads.1.allowed.0, tt)

  -- its task is there
  pub exit_task : (x : TaskAt) × (task_at (state_of old) i name ≡ Some x) × (may_exit (state_of old) i places x ≡ true)
  exit_task = there_and (task_at (state_of old) i name) (may_exit (state_of old) i places) (task_by old may i name places leads.0 leads.1)

  module _ (w : KnownNet) (known : IsNetKnown old.known old.forest (state_of old) i w) (t : ℕ) (out : Outcome) (left : ExitLeaves (state_of old) i name t out) where
    number : task_number w.net.now name ≡ Some t
    number = numbered_by old i (with_state w known.state) known.here name left.of_task left.named t left.number

    of_net : (task : Task) × (slice_get w.net.now.tasks t ≡ Some task)
    of_net = task_known old i name left.of_task left.named w known t number

    abbrev task : Task
    task = of_net.0

    its_name : task.name ≡ name
    its_name = named_so w.net.now t task name of_net.1 number

    pub net_stands : IsSome (net_found old.forest i)
    net_stands = ap is_some known.here.stands.found

    pub has_task : t < length w.net.now.tasks
    has_task = within w.net.now.tasks t task of_net.1

    -- what its exit leaves, as the net stands
    outcome_here : IsOutcome task (items_in known.state.now t) (out-NetState known.state.now).vals out
    outcome_here =
        let s = state_of old in
        let x : TaskAt = its old i (with_state w known.state) known.here name t number task of_net.1 in
        let same : left.of_task ≡ x = some_same left.of_task x (sym left.named ∙ named old i (with_state w known.state) known.here name t number task of_net.1) in
        let unheld = unheld_by old may i name places leads.0 leads.1 in
        let kept = kept_there old may i name places (with_state w known.state) known.here t number task of_net.1 unheld in
        record {
          values = subst (λ (z : TaskAt). fold put_in z.within.part.vals out.puts ≡ exit_values s i z) same left.values ∙ kept;
          places = subst (λ (z : TaskAt). out.places ≡ split_places z.task (exit_values s i z)) same left.places ∙ ap (split_places task) kept;
        }

    pub outcome_there : IsOutcomeIn old.forest w.net.now i t out
    outcome_there = λ state found u at.
        subst (λ (z : NetState). IsOutcome u (items_in z t) (out-NetState z).vals out) (some_same known.state.now state (sym known.here.stands.found ∙ found))
        (subst (λ (v : Task). IsOutcome v (items_in known.state.now t) (out-NetState known.state.now).vals out) (some_same task u (sym of_net.1 ∙ at)) outcome_here)

    pub exited : (f : Forest) → Exits w.net.now i t false old.forest f → IsDone old (events.Exit i name places) (record old { forest = f })
    exited f does =
        let allowed : Allowed (state_of old) (events.Exit i task.name places) nothing =
        subst (λ n. Allowed (state_of old) (events.Exit i n places) nothing) (sym its_name) exit_allowed in
        let net_is : NetIs (state_of old) i w.net.now =
        record { there = as_net_at old.known (with_state w known.state); stands = known.here.at; same = refl; spec = w.spec.now; within = known.here.within } in
        let needs : MayExit w.net.now i task places false (state_of old) =
        record { net_is = net_is; allowed = allowed; rule = λ case. sym ((words_of old may).rule (case_place net_is.there.part.spec Post)) } in
        done old may (λ names. events.Exit i task.name places) (λ names. MayExit w.net.now i task places false) all_else (events.Exit i name places)
        (record old { forest = f }) (does task places of_net.1 (names_of old.known) (state_of old) may.held.sites needs) needs (ap (λ n. events.Exit i n places) its_name) (placed old f) refl exit_allowed
