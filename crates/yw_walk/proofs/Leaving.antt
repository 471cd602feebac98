-- A task that may be left is left by the event that is made of it.
use Rattle.std.proofs.Common.{List, None, Some, ap, refl, subst, sym, true, ℕ, ◌∙◌, ◌≡◌}
use Rattle.std.proofs.lemmas.Option.{slice_get_within}
use Rattle.std.specs.Prelude.{option_and_then, option_map, slice_get}
use Rattle.yw_enabled.proofs.Coming.{exit_comes}
use Rattle.yw_enabled.proofs.FreeItems.{task_is}
use Rattle.yw_enabled.proofs.LeaveLaw.{values_are}
use Rattle.yw_enabled.specs.Free.{StandsFree}
use Rattle.yw_enabled.specs.Left.{LeavesFirst}
use Rattle.yw_known.specs.declared.here.NetHere.{NetHere}
use Rattle.yw_spec.specs.declared.spec.Net.{Net}
use Rattle.yw_spec.specs.declared.spec.Place.{Place}
use Rattle.yw_spec.specs.declared.task.Task.{Task}
use Rattle.yw_state.proofs.Tests.{some_same}
use Rattle.yw_state.specs.Allowed.{exit_values}
use Rattle.yw_state.specs.Automatic.{Comes}
use Rattle.yw_state.specs.Identity.{Ident}
use Rattle.yw_base.specs.Identity.{case_number}
use Rattle.yw_state.specs.Passing.{kept_values, split_places}
use Rattle.yw_state.specs.State.{NetAt, State, TaskAt, task_in}
use Rattle.yw_state.specs.Values.{Row}
use Rattle.yw_state.specs.declared.event.Event.{Event}
use Rattle.yw_state.specs.declared.event.Event.TheVariants as events
use Rattle.yw_still.specs.Still.{is_leaving, task_numbered}
use Rattle.yw_task.proofs.EnterAsk.{its_net, net_with}
use Rattle.yw_task.specs.Leaving.{IsOutcomeAt}
use Rattle.yw_task.specs.Making.{rows_made}
use Rattle.yw_task.specs.Standing.{NetStands}
use Rattle.yw_task.specs.declared.exits.Outcome.{Outcome}
use Rattle.yw_tree.specs.Shows.{items_in}
use Rattle.yw_tree.specs.declared.Forest.{Forest}
use Rattle.yw_tree.specs.declared.NetState.{NetState, out-NetState}
use Rattle.yw_walk.proofs.Numbered.{are_numbered}
use Rattle.yw_walk.specs.Computed.{ExitLeaves}
use Rattle.yw_walk.specs.Finds.{ComesPlainly, FindsLeft, IsExit, IsFound}
use Rattle.yw_walk.specs.Places.{places_numbered}
use Rattle.yw_walk.specs.declared.found.Computed.TheVariants as computed
use Rattle.yw_walk.specs.declared.found.Found.{Found}
use Rattle.yw_within.proofs.Finding.{element_at, numbered_of, task_found}
use Rattle.yw_within.specs.Within.{HoldsWithin}

-- the exit of a task, to the places of its split
abbrev exit_as : State → Ident → TaskAt → Event
exit_as s i x = events.Exit i x.task.name (places_numbered x.within.net (split_places x.task (exit_values s i x)))

-- the task with this number, in a net that stands
pub task_there : (names : ℕ → List ℕ) (f : Forest) (s : State) (i : Ident) (net : Net) (state : NetState) → NetStands names f s i net state
    → (t : ℕ) (task : Task) → slice_get net.tasks t ≡ Some task
    → task_numbered s i t ≡ Some (record { number = t; task = task; within = net_with names net state })
task_there names f s i net state h t task at =
    ap (option_and_then (λ (n : NetAt). task_in n t)) (its_net names f s i net state h)
    ∙ ap (option_map (λ (u : Task). record { number = t; task = u; within = net_with names net state })) at

module _ (net : Net) (state : NetState) (i : Ident) where
  is_exit : (t : ℕ) (task : Task) → slice_get net.tasks t ≡ Some task → (names : ℕ → List ℕ) (f : Forest) (s : State) (x : TaskAt)
      → StandsFree names f s i net state → HoldsWithin s
      → task_numbered s i t ≡ Some x → is_leaving s i x ≡ true
      → ComesPlainly s (case_number i)
      (events.Exit i task.name
      (places_numbered net (split_places task (kept_values task (rows_made (items_in state t)) (out-NetState state).vals))))
  is_exit t task at names f s x free holds is may =
      let r = exit_comes s holds i t x is may in
      let same : r.of_task ≡ x = some_same r.of_task x (sym r.numbered ∙ is) in
      let named = are_numbered r.of_task.within.net r.places (split_places r.of_task.task (exit_values s i r.of_task)) r.puts in
      let comes : Comes s (case_number i) (exit_as s i x) =
      subst (λ (z : TaskAt). Comes s (case_number i) (exit_as s i z)) same
      (subst (λ ps. Comes s (case_number i) (events.Exit i r.of_task.task.name ps)) (sym named) r.comes) in
      let y : TaskAt = record { number = t; task = task; within = net_with names net state } in
      let its : x ≡ y = some_same x y (sym is ∙ task_there names f s i net state free.stands t task at) in
      let values : exit_values s i y ≡ kept_values task (rows_made (items_in state t)) (out-NetState state).vals =
      values_are names f s i net state free t task in
      let event : exit_as s i x ≡ events.Exit i task.name
      (places_numbered net (split_places task (kept_values task (rows_made (items_in state t)) (out-NetState state).vals))) =
      ap (exit_as s i) its ∙ ap (λ (vals : Row). events.Exit i task.name (places_numbered net (split_places task vals))) values in
      record { comes = subst (Comes s (case_number i)) event comes; plain = λ no. refl }

  -- and this was computed of it
  computed_of : (t : ℕ) (task : Task) → slice_get net.tasks t ≡ Some task → (out : Outcome) → IsOutcomeAt net t state out
      → (names : ℕ → List ℕ) (f : Forest) (s : State) → StandsFree names f s i net state → HoldsWithin s → ExitLeaves s i task.name t out
  computed_of t task at out is names f s free holds =
      let y : TaskAt = record { number = t; task = task; within = net_with names net state } in
      let there : task_numbered s i t ≡ Some y = task_there names f s i net state free.stands t task at in
      let its = is task at in
      let values : exit_values s i y ≡ kept_values task (rows_made (items_in state t)) (out-NetState state).vals =
      values_are names f s i net state free t task in
      record {
        of_task = y;
        named = task_found s holds i y (numbered_of s i t y there);
        number = refl;
        values = its.values ∙ sym values;
        places = its.places ∙ ap (split_places task) (sym values);
      }

  -- and so by each that has these fields
  pub made_exit : (t : ℕ) (task : Task) → slice_get net.tasks t ≡ Some task → (out : Outcome) → (j name : List ℕ) (places : List Place)
      → j ≡ i → name ≡ task.name → places ≡ places_numbered net out.places
      → (names : ℕ → List ℕ) (f : Forest) (s : State) (x : TaskAt) → StandsFree names f s i net state → HoldsWithin s
      → task_numbered s i t ≡ Some x → is_leaving s i x ≡ true → IsOutcomeAt net t state out
      → IsFound s (case_number i) (record { event = events.Exit j name places; computed = computed.Exit t out })
  made_exit t task at out j name places its_net its_name its_places = λ names f s x free holds is may left.
      let whole = its_places ∙ ap (places_numbered net) (left task at).places in
      subst (λ (e : Event). IsFound s (case_number i) (record { event = e; computed = computed.Exit t out }))
      (λ k. events.Exit (sym its_net k) (sym its_name k) (sym whole k))
      (record { comes = is_exit t task at names f s x free holds is may; computed = computed_of t task at out left names f s free holds })

pub finds_left : (h : NetHere) (i : Ident) (t : ℕ) (out : Outcome) (e : Found) → LeavesFirst h.net.now h.state.now (Some (t, out)) → IsExit h i t out e
    → FindsLeft h i (Some e)
finds_left h i t out e first exit = λ names f s free holds.
    let (task, at) = element_at h.net.now.tasks t first.below in
    let x : TaskAt = record { number = t; task = task; within = net_with names h.net.now h.state.now } in
    let is = task_there names f s i h.net.now h.state.now free.stands t task at in
    exit names f s x free holds is (first.leaves.leaves names f s i x free is) first.leaves.outcome

pub finds_none_left : (h : NetHere) (i : Ident) → LeavesFirst h.net.now h.state.now None → FindsLeft h i None
finds_none_left h i none = λ names f s free holds k x is.
    let y = task_is names f s i h.net.now h.state.now free k x is in
    none k (slice_get_within h.net.now.tasks k y.0 y.1) names f s i x free is
