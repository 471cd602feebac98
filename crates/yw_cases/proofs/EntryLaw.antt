-- Whether a task's entry is allowed.
use Rattle.std.proofs.Common.{ap, length, refl, subst, sym, ◌∙◌}
use Rattle.std.proofs.Math.Bool.{and-false}
use Rattle.std.proofs.lemmas.Bool.{and_from, and_parts, eq-eqb, eqb-true}
use Rattle.std.specs.Prelude.{Bool, List, None, Option, Some, Vec, [], false, nat_le, not, slice_get, true, unwrap_or, ℕ, ◌&&◌, ◌+◌, ◌==◌, ◌≡◌}
use Rattle.std.specs.declared.alloc.Global.{Global}
use Rattle.yw_base.specs.Identity.{number_end}
use Rattle.yw_cases.proofs.Allows.{clear_there, only_clear}
use Rattle.yw_accepted.proofs.Loaded.{accepted_are_within}
use Rattle.yw_cases.proofs.TaskHere.{its, named, named_so, numbered}
use Rattle.yw_cases.proofs.Taking.{joined, taken_by}
use Rattle.yw_cases.proofs.Trying.{words_of}
use Rattle.yw_cases.specs.Entering.{IsChoice, candidate, stands_for}
use Rattle.yw_cases.specs.State.{MayStand}
use Rattle.yw_cases.specs.Tried.{MayAct}
use Rattle.yw_enabled.specs.Entered.{MayEnter, MayNotEnter}
use Rattle.yw_enabled.specs.Free.{MayDraw}
use Rattle.yw_known.specs.Here.{IsNetHere}
use Rattle.yw_library.specs.Names.{names_of}
use Rattle.yw_known.specs.declared.here.NetHere.{NetHere}
use Rattle.yw_mark.specs.Taking.{taken_places}
use Rattle.yw_mark.specs.declared.join.Taken.{Taken}
use Rattle.yw_standing.proofs.Trying.{fails, leads_plainly, next_is}
use Rattle.yw_standing.specs.State.{state_of}
use Rattle.yw_standing.specs.Tried.{LeadsNowhere, LeadsOn}
use Rattle.yw_standing.specs.declared.standing.Standing.{Standing}
use Rattle.yw_texts.specs.Texts.{reader}
use Rattle.yw_spec.specs.declared.spec.Place.{Place}
use Rattle.yw_spec.specs.declared.task.Task.{Task}
use Rattle.yw_state.proofs.Tests.{and_left, and_right, is_not, never, some_same, there_and}
use Rattle.yw_state.specs.Allowed.{allows, draws, makes, may_enter, place_numbers, takes_from}
use Rattle.yw_state.specs.Events.{Leads}
use Rattle.yw_state.specs.Identity.{Ident}
use Rattle.yw_state.specs.Joins.{NoWait, has_tokens, joins}
use Rattle.yw_state.specs.Nets.{task_number}
use Rattle.yw_state.specs.Options.{is_some_and}
use Rattle.yw_state.specs.Passing.{entry_values, within_bounds}
use Rattle.yw_state.specs.State.{State, TaskAt, task_at}
use Rattle.yw_state.specs.Texts.{Said, nothing}
use Rattle.yw_state.specs.Values.{Row}
use Rattle.yw_state.specs.Words.{active, clear, held}
use Rattle.yw_state.specs.declared.event.Event.TheVariants as events
use Rattle.yw_still.proofs.Joining.{joins_tokens}
use Rattle.yw_still.specs.Still.{can_be_entered, may_be_made}
use Rattle.yw_task.proofs.EnterAsk.{has_marks}
use Rattle.yw_task.specs.Giving.{entry_rows}
use Rattle.yw_tree.specs.declared.NetState.{out-NetState}
use Rattle.yw_walk.specs.Finds as walks
use Rattle.yw_walk.specs.Finds.{IsEntered}
use Rattle.yw_walk.specs.declared.found.Computed.TheVariants as computed
use Rattle.yw_walk.specs.declared.found.Found.{Found}
use Rattle.yw_within.proofs.Finding.{well_holds_within}

-- ---- as the definitions have it

module _ (old : Standing) (may : MayStand old) (i : Ident) (name : List ℕ) (places : List Place) (first count : ℕ) where
  abbrev s : State
  s = state_of old

  -- its task may be entered so
  abbrev its_task : Bool
  its_task = is_some_and (task_at s i name) (may_enter s i places first count)

  pub enter_as : (said : Said) → allows s (events.Enter i name places first count) said ≡ (not (held s i) && its_task)
  unfolding allows
  enter_as said = only_clear s (words_of old may) i its_task

  -- where it is allowed, work isn't held, and its task may be entered
  pub unheld_by : (z : State) → Leads reader s (events.Enter i name places first count) z → held s i ≡ false
  unheld_by z leads = is_not (held s i) (and_left (not (held s i)) its_task (sym (enter_as leads.said) ∙ leads.allowed.0))

  pub task_by : (z : State) → Leads reader s (events.Enter i name places first count) z → its_task ≡ true
  task_by z leads = and_right (not (held s i)) its_task (sym (enter_as leads.said) ∙ leads.allowed.0)

  pub held_back : held s i ≡ true → LeadsNowhere old (events.Enter i name places first count)
  held_back is = fails old (events.Enter i name places first count) (λ said. enter_as said ∙ ap (λ b. not b && its_task) is)

  pub no_task : task_at s i name ≡ None → LeadsNowhere old (events.Enter i name places first count)
  no_task none =
      fails old (events.Enter i name places first count)
      (λ said. enter_as said ∙ ap (λ o. not (held s i) && is_some_and o (may_enter s i places first count)) none ∙ and-false (not (held s i)))

  module _ (w : NetHere) (here : IsNetHere old.known old.forest s i w) (t : ℕ) (number : task_number w.net.now name ≡ Some t) (task : Task)
      (of_net : slice_get w.net.now.tasks t ≡ Some task) (unheld : held s i ≡ false) where
    abbrev x : TaskAt
    x = its old i w here name t number task of_net

    -- nothing holds work there
    clear_here : clear s i ≡ true
    clear_here = clear_there s (words_of old may) i unheld

    abbrev marks : List ℕ
    marks = (out-NetState w.state.now).marks

    abbrev vals : Row
    vals = (out-NetState w.state.now).vals

    pub draw_there : MayDraw (names_of old.known) old.forest s i w.net.now w.state.now old.next
    draw_there =
        record {
          free = record { stands = here.stands; numbers = may.held.well.numbers; free = clear_here };
          spec = w.spec.now;
          within = here.within;
          next = next_is old;
        }

    -- so many rows are given as are made
    so_many : (rows : List Row) → entry_values task vals ≡ Some rows → length (entry_rows task vals) ≡ length rows
    so_many rows made = ap (λ (o : Option (List Row)). length (unwrap_or o [])) made

    -- ---- what an entry that is allowed tells

    pub record Entering : Type 0 where
      pub idle : not (active s i t) ≡ true
      pub cs : List ℕ
      pub are : place_numbers w.net.now places ≡ Some cs
      pub taken : joins task.join s i task.before cs ≡ true
      pub rows : List Row
      pub made : entry_values task vals ≡ Some rows
      pub as_many : length rows ≡ count
      pub bounds : within_bounds task.many count ≡ true
      pub same : first ≡ s.next
      pub room : nat_le (first + count) number_end ≡ true

    pub entering : may_enter s i places first count x ≡ true → Entering
    entering e =
        let one = and_parts (not (active s i t) && takes_from s i x places && makes x count) (draws s first count) e in
        let two = and_parts (not (active s i t) && takes_from s i x places) (makes x count) one.0 in
        let three = and_parts (not (active s i t)) (takes_from s i x places) two.0 in
        let cs = there_and (place_numbers w.net.now places) (joins task.join s i task.before) three.1 in
        let made = and_parts (is_some_and (entry_values task vals) (λ rs. length rs == count)) (within_bounds task.many count) two.1 in
        let rows = there_and (entry_values task vals) (λ rs. length rs == count) made.0 in
        let drawn = and_parts (first == s.next) (nat_le (first + count) number_end) one.1 in
        record {
          idle = three.0;
          cs = cs.0;
          are = cs.1;
          taken = cs.2;
          rows = rows.0;
          made = rows.1;
          as_many = eqb-true (length rows.0) count rows.2;
          bounds = made.1;
          same = eqb-true first s.next drawn.0;
          room = drawn.1;
        }

    pub its_entry : (z : State) → Leads reader s (events.Enter i name places first count) z → may_enter s i places first count x ≡ true
    its_entry z leads =
        let found = there_and (task_at s i name) (may_enter s i places first count) (task_by z leads) in
        subst (λ (y : TaskAt). may_enter s i places first count y ≡ true) (some_same found.0 x (sym found.1 ∙ named old i w here name t number task of_net)) found.2

    can_enter : Entering → can_be_entered s i x ≡ true
    can_enter h =
        let made : is_some_and (entry_values task vals) (may_be_made s x) ≡ true =
        ap (λ o. is_some_and o (may_be_made s x)) h.made
        ∙ and_from (within_bounds task.many (length h.rows)) (nat_le (s.next + length h.rows) number_end)
        (ap (within_bounds task.many) h.as_many ∙ h.bounds) ((λ j. nat_le (sym h.same j + h.as_many j) number_end) ∙ h.room) in
        and_from (clear s i && not (active s i t) && has_tokens task.join s i task.before) (is_some_and (entry_values task vals) (may_be_made s x))
        (and_from (clear s i && not (active s i t)) (has_tokens task.join s i task.before) (and_from (clear s i) (not (active s i t)) clear_here h.idle)
        (joins_tokens s i task.before task.join h.cs h.taken)) made

    pub not_entered : MayNotEnter w.net.now w.state.now t old.next → LeadsNowhere old (events.Enter i name places first count)
    not_entered out z leads =
        let waits = out (names_of old.known) old.forest s i x draw_there (numbered old i w here name t number task of_net) (can_enter (entering (its_entry z leads))) in
        leads.allowed.1 x (named old i w here name t number task of_net) waits.0 waits.1

    pub not_drawn : (first == old.next && length (entry_rows task vals) == count) ≡ false → LeadsNowhere old (events.Enter i name places first count)
    not_drawn e z leads =
        let h = entering (its_entry z leads) in
        never (sym e ∙ and_from (first == old.next) (length (entry_rows task vals) == count) (eq-eqb first old.next (h.same ∙ next_is old))
        (eq-eqb (length (entry_rows task vals)) count (so_many h.rows h.made ∙ h.as_many)))

    pub not_taken : stands_for w.net.now marks task.before places (candidate task.join w.net.now places) ≡ false → LeadsNowhere old (events.Enter i name places first count)
    not_taken e z leads =
        let h = entering (its_entry z leads) in
        never (sym e ∙ joined s i marks (has_marks (names_of old.known) old.forest s i w.net.now w.state.now here.stands) w.net.now task.before places task.join h.cs h.are h.taken)

    -- ---- and where it is allowed

    tokens_there : (own : Taken) → MayEnter w.net.now w.state.now t old.next own → has_tokens task.join s i task.before ≡ true
    tokens_there own enters =
        let from = enters (names_of old.known) old.forest s i x draw_there (numbered old i w here name t number task of_net) in
        let one = and_parts (clear s i && not (active s i t) && has_tokens task.join s i task.before) (is_some_and (entry_values task vals) (may_be_made s x)) from.may in
        (and_parts (clear s i && not (active s i t)) (has_tokens task.join s i task.before) one.0).1

    leads_in : (own : Taken) → MayEnter w.net.now w.state.now t old.next own → (first == old.next && length (entry_rows task vals) == count) ≡ true
        → stands_for w.net.now marks task.before places (candidate task.join w.net.now places) ≡ true → LeadsOn old (events.Enter i name places first count)
    leads_in own enters drawn stands =
        let from = enters (names_of old.known) old.forest s i x draw_there (numbered old i w here name t number task of_net) in
        let one = and_parts (clear s i && not (active s i t) && has_tokens task.join s i task.before) (is_some_and (entry_values task vals) (may_be_made s x)) from.may in
        let two = and_parts (clear s i && not (active s i t)) (has_tokens task.join s i task.before) one.0 in
        let idle = (and_parts (clear s i) (not (active s i t)) two.0).1 in
        let rows = there_and (entry_values task vals) (may_be_made s x) one.1 in
        let fits = and_parts (within_bounds task.many (length rows.0)) (nat_le (s.next + length rows.0) number_end) rows.2 in
        let both = and_parts (first == old.next) (length (entry_rows task vals) == count) drawn in
        let as_many : length rows.0 ≡ count = sym (so_many rows.0 rows.1) ∙ eqb-true (length (entry_rows task vals)) count both.1 in
        let same : first ≡ s.next = eqb-true first old.next both.0 ∙ sym (next_is old) in
        let marked = has_marks (names_of old.known) old.forest s i w.net.now w.state.now here.stands in
        let by = taken_by s i marks marked w.net.now task.before places task.join two.1 stands in
        let takes : takes_from s i x places ≡ true = ap (λ o. is_some_and o (joins task.join s i task.before)) by.numbers ∙ by.joins_them in
        let made : makes x count ≡ true =
        and_from (is_some_and (entry_values task vals) (λ rs. length rs == count)) (within_bounds task.many count)
        (ap (λ o. is_some_and o (λ rs. length rs == count)) rows.1 ∙ eq-eqb (length rows.0) count as_many) (ap (within_bounds task.many) (sym as_many) ∙ fits.0) in
        let draw : draws s first count ≡ true =
        and_from (first == s.next) (nat_le (first + count) number_end) (eq-eqb first s.next same) ((λ j. nat_le (same j + sym as_many j) number_end) ∙ fits.1) in
        let all : may_enter s i places first count x ≡ true =
        and_from (not (active s i t) && takes_from s i x places && makes x count) (draws s first count)
        (and_from (not (active s i t) && takes_from s i x places) (makes x count) (and_from (not (active s i t)) (takes_from s i x places) idle takes) made) draw in
        leads_plainly old (events.Enter i name places first count) refl (
          enter_as nothing ∙ ap (λ b. not b && its_task) unheld
              ∙ ap (λ o. is_some_and o (may_enter s i places first count)) (named old i w here name t number task of_net) ∙ all,
          λ y is_y. subst (NoWait s i) (some_same x y (sym (named old i w here name t number task of_net) ∙ is_y)) from.no_wait,
        )

    -- ---- what is computed of it

    pub enters_by : (own : Taken) → MayEnter w.net.now w.state.now t old.next own → (rows : Vec Row Global) → rows.items ≡ entry_rows task vals
        → (first == old.next && length rows.items == count) ≡ true → (taken : Taken) → IsChoice w.net.now marks task places taken
        → MayAct old (events.Enter i name places first count) (computed.Enter t taken rows)
    enters_by own enters rows gives drawn taken choice =
        let marked = has_marks (names_of old.known) old.forest s i w.net.now w.state.now here.stands in
        let by = taken_by s i marks marked w.net.now task.before places task.join (tokens_there own enters) choice.stands in
        record {
          leads = leads_in own enters (subst (λ (rs : List Row). (first == old.next && length rs == count) ≡ true) gives drawn) choice.stands;
          computed = record {
            of_task = x;
            named = named old i w here name t number task of_net;
            number = refl;
            takes = by.numbers ∙ ap (λ (z : Taken). Some (taken_places marks task.before z)) (sym choice.is);
            gives = gives;
          };
        }

-- ---- the event by which it may be entered

module _ (old : Standing) (may : MayStand old) (i : Ident) (name : List ℕ) (w : NetHere) (here : IsNetHere old.known old.forest (state_of old) i w) (t : ℕ)
    (number : task_number w.net.now name ≡ Some t) (task : Task) (of_net : slice_get w.net.now.tasks t ≡ Some task)
    (unheld : held (state_of old) i ≡ false) where
  pub entered_as : (taken : Taken) → MayEnter w.net.now w.state.now t old.next taken → (e : Found) → walks.IsEntry w i old.next t taken e
      → IsEntered (state_of old) i name e
  entered_as taken enters e entry =
      let draw = draw_there old may i name [] 0 0 w here t number task of_net unheld in
      let is = numbered old i w here name t number task of_net in
      subst (λ (n : List ℕ). IsEntered (state_of old) i n e) (named_so w.net.now t task name of_net number)
      (entry (names_of old.known) old.forest (state_of old) (its old i w here name t number task of_net) draw
      (well_holds_within reader (state_of old) accepted_are_within may.held.well) is
      (enters (names_of old.known) old.forest (state_of old) i (its old i w here name t number task of_net) draw is))
