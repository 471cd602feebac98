-- What comes of itself of a case and of an item, where nothing holds work.
use Rattle.std.proofs.Common.{Bool, None, Option, Some, [], ap, false, refl, subst, sym, true, ℕ, ◌∙◌, ◌∷◌, ◌≡◌}
use Rattle.std.proofs.lemmas.Bool.{and_from, and_parts}
use Rattle.std.proofs.Math.Bool.{and-false}
use Rattle.std.specs.Prelude.{is_none, is_some, not, option_and_then, option_map, ◌&&◌, ◌||◌}
use Rattle.yw_enabled.specs.Items.{ItemFree, ItemGoes, StepsAs, event_of}
use Rattle.yw_enabled.specs.declared.items.ItemStep.{ItemStep}
use Rattle.yw_enabled.specs.declared.items.ItemStep.TheVariants.{CompleteEmpty, CompleteSub, CompleteWorklet, StartSub}
use Rattle.yw_library.specs.Held.{IsHeld}
use Rattle.yw_known.specs.Here.{IsItemHere, as_item_at}
use Rattle.yw_library.specs.Names.{names_of}
use Rattle.yw_known.specs.declared.here.ItemHere.{ItemHere}
use Rattle.yw_library.specs.Holdings.{Holdings}
use Rattle.yw_plain.specs.Plain.{is_plain_event}
use Rattle.yw_spec.specs.declared.spec.Net.{Net}
use Rattle.yw_spec.specs.declared.task.Kind.{Kind}
use Rattle.yw_spec.specs.declared.task.Kind.TheVariants as kinds
use Rattle.yw_spec.specs.declared.task.Task.{Task}
use Rattle.yw_state.proofs.Tests.{by_option, and_left, and_right, never, then_some, there_and}
use Rattle.yw_state.specs.Allowed.{Allowed, allows}
use Rattle.yw_state.specs.Automatic.{case_of, is_automatic}
use Rattle.yw_state.specs.Identity.{Ident, case_ident}
use Rattle.yw_base.specs.Identity.{case_number, parent}
use Rattle.yw_state.specs.Joins.{at_output, marked}
use Rattle.yw_state.specs.Nets.{child_net, is_atomic}
use Rattle.yw_state.specs.State.{ItemAt, ItemPart, NetAt, NetPart, State, TaskAt, is_item, item_at, item_part, net_at, net_of, net_part, task_in}
use Rattle.yw_state.specs.Texts.{nothing}
use Rattle.yw_state.specs.Well.{NetsStand, has_worklet, is_composite, wants_net}
use Rattle.yw_state.specs.Options.{is_some_and}
use Rattle.yw_state.specs.Words.{busy, clear, is_executing}
use Rattle.yw_state.specs.declared.event.Event.TheVariants as events
use Rattle.yw_still.specs.Still.{item_begins, item_ends, item_goes_on}
use Rattle.yw_tree.specs.declared.Forest.{Forest}
use Rattle.yw_walk.specs.Computed.{IsComputedOf}
use Rattle.yw_walk.specs.Finds.{ComesPlainly}
use Rattle.yw_walk.specs.declared.found.Computed.TheVariants as computed
use Rattle.yw_plain.specs.Worklets.{HasNoWorklet}

-- ---- a case

module _ (s : State) where
  pub finishes : (n : ℕ) → clear s (case_ident n) ≡ true → busy s (case_ident n) ≡ false → at_output s (case_ident n) ≡ true
      → ComesPlainly s n (events.Finish n)
  unfolding allows
  finishes n free idle ends =
      let allowed : Allowed s (events.Finish n) nothing = (and_from _ _ (and_from _ _ free (ap not idle)) ends, tt) in
      record { comes = record { here = refl; automatic = refl; allowed = allowed }; plain = λ no. refl }

  pub finishes_at : (j : Ident) (n : ℕ) → j ≡ n ∷ [] → clear s j ≡ true → busy s j ≡ false → at_output s j ≡ true
      → ComesPlainly s (case_number j) (events.Finish n)
  finishes_at j n one free idle ends =
      subst (λ z. ComesPlainly s (case_number z) (events.Finish n)) (sym one)
      (finishes n (ap (clear s) (sym one) ∙ free) (ap (busy s) (sym one) ∙ idle) (ap (at_output s) (sym one) ∙ ends))

-- ---- an item

-- nothing is computed of a step
pub nothing_computed : (s : State) (step : ItemStep) (j : Ident) → IsComputedOf s (event_of step j) computed.Nothing
nothing_computed s StartSub j = refl
nothing_computed s CompleteSub j = refl
nothing_computed s CompleteEmpty j = refl
nothing_computed s CompleteWorklet j = refl

step_case : (step : ItemStep) (j : Ident) → case_of (event_of step j) ≡ Some (case_number j)
step_case StartSub j = refl
step_case CompleteSub j = refl
step_case CompleteEmpty j = refl
step_case CompleteWorklet j = refl

step_automatic : (s : State) (step : ItemStep) (j : Ident) → is_automatic s (event_of step j) ≡ true
step_automatic s StartSub j = refl
step_automatic s CompleteSub j = refl
step_automatic s CompleteEmpty j = refl
step_automatic s CompleteWorklet j = refl

-- an atomic task has no child net
atomic_alone : (t : Task) → is_atomic t ≡ true → is_some (child_net t) ≡ false
atomic_alone t = by_kind t.kind
  where
    by_kind : (k : Kind) → is_atomic (record t { kind = k }) ≡ true → is_some (child_net (record t { kind = k })) ≡ false
    by_kind kinds.Atomic e = refl
    by_kind kinds.Empty e = never e
    by_kind (kinds.Sub n) e = never e

some_or_none : {A : Type 0} (o : Option A) → is_some o ≡ true → is_none o ≡ true → ⊥
some_or_none None some none = never some
some_or_none (Some x) some none = never none

module _ (s : State) (nets : NetsStand s) (none : HasNoWorklet s) (j : Ident) where
  -- at an item of an atomic task no net is at its end
  no_worklet : (x : ItemAt) → item_at s j ≡ Some x → is_atomic x.of_task.task ≡ true → is_executing x.part.stage ≡ true
      → at_output s j ≡ true → ⊥
  no_worklet x at atomic begun ends =
      let n = there_and (net_at s j) (λ (m : NetAt). marked s j m.net.output) ends in
      let p = then_some (λ (q : NetPart). option_map (λ (net : Net). record { part = q; net = net }) (net_of s q)) (net_part s j) n.0 n.1 in
      let wants = and_left (wants_net x) _ (nets.of_item j p.0 x p.1 at) in
      let either = and_right (is_executing x.part.stage) (is_composite x || has_worklet x) wants in
      let worklet : has_worklet x ≡ true = sym (ap (λ b. b || has_worklet x) (atomic_alone x.of_task.task atomic)) ∙ either in
      some_or_none x.part.who (none.started j x at atomic begun) (and_right (is_atomic x.of_task.task) (is_none x.part.who) worklet)

  step_plain : (step : ItemStep) → Allowed s (event_of step j) nothing → is_plain_event (event_of step j) ≡ true
  unfolding allows
  step_plain StartSub may = refl
  step_plain CompleteSub may = refl
  step_plain CompleteEmpty may = refl
  step_plain CompleteWorklet may =
      let all = and_parts _ (at_output s j) may.0 in
      let item = there_and (item_at s j) (λ (x : ItemAt). is_executing x.part.stage && is_atomic x.of_task.task) (and_right _ _ all.0) in
      let is = and_parts (is_executing item.0.part.stage) (is_atomic item.0.of_task.task) item.2 in
      absurd (no_worklet item.0 item.1 is.1 is.0 all.1)

-- where no item stands, none goes on
no_item : (s : State) (j : Ident) → is_item s j ≡ false → item_at s j ≡ None
no_item s j none =
    by_option (item_part s j)
    (λ gone. ap (option_and_then (λ (x : ItemPart). option_and_then (λ (n : NetAt). option_map (λ (t : TaskAt). let y : ItemAt = record { part = x; of_task = t } in y) (task_in n x.task)) (net_at s (parent j)))) gone)
    (λ p there. never (sym none ∙ ap is_some there))

pub stays_without : (s : State) (j : Ident) → is_item s j ≡ false → item_goes_on s j ≡ false
stays_without s j none =
    ap (λ o. clear s j && is_some_and o (λ (x : ItemAt). item_begins s j x || item_ends s j x)) (no_item s j none) ∙ and-false (clear s j)

module _ (known : Holdings) (f : Forest) (s : State) (held : IsHeld known f s) (j : Ident) (calm : clear s j ≡ true) (here : ItemHere)
    (is : IsItemHere known f s j here) (ends : Bool) (out : at_output s j ≡ ends) where
  its : (o : Option ItemStep) → StepsAs here.item.now here.task.now ends o → ItemGoes s j o
  its o steps =
      let free : ItemFree (names_of known) f s here.item.now here.task.now ends = record {
        stands = is.stands;
        item = as_item_at known here;
        known = ap (item_at s) is.identity ∙ is.at;
        of_task = refl;
        free = ap (clear s) is.identity ∙ calm;
        at_end = ap (at_output s) is.identity ∙ out;
      } in
      subst (λ z. ItemGoes s z o) is.identity (steps (names_of known) f s free)

  pub stays : StepsAs here.item.now here.task.now ends None → item_goes_on s j ≡ false
  stays steps = its None steps

  pub goes : (step : ItemStep) → StepsAs here.item.now here.task.now ends (Some step) → ComesPlainly s (case_number j) (event_of step j)
  goes step steps =
      let takes = its (Some step) steps in
      record {
        comes = record { here = step_case step j; automatic = step_automatic s step j; allowed = takes.allowed };
        plain = λ none. step_plain s held.well.nets none j step takes.allowed;
      }
