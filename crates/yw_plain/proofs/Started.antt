-- A state that is well and has no worklet has none behind an event that is allowed and keeps states plain: an item that executes then did so
-- before, or was started by somebody, or is of a composite task.
use Rattle.std.specs.Prelude.{◌≡◌, ◌<◌, ◌==◌, ℕ, true, false, List, Option, Some, None, is_some, is_none, option_and_then, option_map, slice_get, refl}
use Rattle.std.specs.Str.{bytes_eq}
use Rattle.std.proofs.Common.{sym, ◌∙◌, ap, subst, inl, inr, arith}
use Rattle.std.proofs.lemmas.Bool.{eqb-true, ltb-true, not-true}
use Rattle.yw_plain.proofs.Walk.{Holds, Keeps, Puts, event-holds}
use Rattle.yw_plain.specs.Plain.{keeps_plain}
use Rattle.yw_plain.specs.Worklets.{HasNoWorklet}
use Rattle.yw_spec.specs.declared.spec.Net.{Net}
use Rattle.yw_spec.specs.declared.spec.Spec.{Spec}
use Rattle.yw_spec.specs.declared.task.Kind.{Kind}
use Rattle.yw_spec.specs.declared.task.Kind.TheVariants as kinds
use Rattle.yw_spec.specs.declared.task.Task.{Task}
use Rattle.yw_state.proofs.MapLemmas.{by_name, get-insert_other}
use Rattle.yw_state.proofs.Standing.{at_net_part}
use Rattle.yw_state.proofs.Tests.{and_left, and_right, by_option, map_some, never, nowhere, or_cases, some_same, there, then_some}
use Rattle.yw_state.specs.After.{begun, completed}
use Rattle.yw_state.specs.Allowed.{Allowed, allows, composite_is}
use Rattle.yw_state.specs.Events.{after}
use Rattle.yw_state.specs.Identity.{Ident, case_ident}
use Rattle.yw_base.specs.Identity.{parent}
use Rattle.yw_state.specs.Map.{Map, get, has_key, lexical, lexical_each}
use Rattle.yw_state.specs.Nets.{child_net, is_atomic}
use Rattle.yw_state.specs.Options.{is_some_and}
use Rattle.yw_state.specs.RuleTree.{TreeRule}
use Rattle.yw_state.specs.State.{State, Site, ItemAt, ItemPart, NetAt, NetPart, TaskAt, item_at, item_part, net_at, net_of, net_part, spec_called, task_in}
use Rattle.yw_state.specs.Texts.{Said, a_spec, a_test, nothing}
use Rattle.yw_state.specs.Well.{NetsStand, NumbersFit, ParentsStand, has_worklet, is_composite, wants_net}
use Rattle.yw_state.specs.Words.{is_executing, is_ready}
use Rattle.yw_state.specs.declared.event.Event.{Event}
use Rattle.yw_state.specs.declared.event.Event.TheVariants as events
use Rattle.yw_state.specs.declared.loaded.Loaded.{Loaded}
use Rattle.yw_state.specs.declared.part.Stage.{Stage}
use Rattle.yw_state.specs.declared.part.Stage.TheVariants.{Ready, Executing, Completed}

-- ---- tasks and stages

-- an atomic task has no child net
no_child : {A : Type 0} (t : Task) → is_atomic t ≡ true → is_some (child_net t) ≡ true → A
no_child {A} t = by_kind t.kind
  where
    by_kind : (kind : Kind) → is_atomic (record t { kind = kind }) ≡ true → is_some (child_net (record t { kind = kind })) ≡ true → A
    by_kind kinds.Atomic atomic composite = never composite
    by_kind kinds.Empty atomic composite = never composite
    by_kind (kinds.Sub k) atomic composite = never atomic

no_both : {A : Type 0} (stage : Stage) → is_ready stage ≡ true → is_executing stage ≡ true → A
no_both Ready ready runs = never runs
no_both Executing ready runs = never ready
no_both Completed ready runs = never ready

-- ---- what there is where a net is found with its specification, and an item with its task

record IsNet (s : State) (i : Ident) (n : NetAt) : Type 0 where
  part : net_part s i ≡ Some n.part
  spec : Spec
  called : spec_called s n.part.spec ≡ Some spec
  numbered : slice_get spec.nets n.part.net ≡ Some n.net

is_net : (s : State) (i : Ident) (n : NetAt) → net_at s i ≡ Some n → IsNet s i n
is_net s i n e =
    let (part, part_is, of_part) = then_some (λ m. option_map (λ net. record { part = m; net = net }) (net_of s m)) (net_part s i) n e in
    let (net, net_is, made) = map_some (λ (net : Net). record { part = part; net = net }) (net_of s part) n of_part in
    let (spec, called, numbered) = then_some (λ (spec : Spec). slice_get spec.nets part.net) (spec_called s part.spec) net net_is in
    subst (IsNet s i) made (record { part = part_is; spec = spec; called = called; numbered = numbered })

record IsItem (s : State) (j : Ident) (x : ItemAt) : Type 0 where
  part : item_part s j ≡ Some x.part
  within : NetAt
  net : IsNet s (parent j) within
  task : slice_get within.net.tasks x.part.task ≡ Some x.of_task.task

is_item : (s : State) (j : Ident) (x : ItemAt) → item_at s j ≡ Some x → IsItem s j x
is_item s j x e =
    let (part, part_is, found) = then_some (λ (y : ItemPart). option_and_then (λ n. option_map (λ t. record { part = y; of_task = t }) (task_in n y.task)) (net_at s (parent j))) (item_part s j) x e in
    let (n, within, in_net) = then_some (λ n. option_map (λ t. record { part = part; of_task = t }) (task_in n part.task)) (net_at s (parent j)) x found in
    let (t, of_task, made) = map_some (λ (t : TaskAt). record { part = part; of_task = t }) (task_in n part.task) x in_net in
    let (task, at, task_made) = map_some (λ (u : Task). record { number = part.task; task = u; within = n }) (slice_get n.net.tasks part.task) t of_task in
    subst (IsItem s j) {x = record { part = part; of_task = t }} made
    (subst (λ (u : TaskAt). IsItem s j (record { part = part; of_task = u })) {x = record { number = part.task; task = task; within = n }} task_made
    (record { part = part_is; within = n; net = is_net s (parent j) n within; task = at }))

module _ (s : State) where
  -- ---- what was there before

  abbrev Known : Map lexical Loaded → Map lexical_each (List TreeRule) → Type 0
  Known specs rules = (name : List ℕ) (l : Loaded) → get s.specs name ≡ Some l → get specs name ≡ Some l

  -- The item was there, of the same task, and somebody has started it if that is atomic.
  record WasThere (j : Ident) (p : ItemPart) : Type 0 where
    before : ItemPart
    stood : item_part s j ≡ Some before
    task : p.task ≡ before.task
    started : (x : ItemAt) → item_at s j ≡ Some x → is_atomic x.of_task.task ≡ true → is_some p.who ≡ true

  -- If a net was there, this is the same, and so for an item that executes.
  record GoesOn (j : Ident) (y : Site) : Type 0 where
    net : (n m : NetPart) → y.net ≡ Some n → net_part s j ≡ Some m → (n.spec ≡ m.spec) × (n.net ≡ m.net)
    item : (p : ItemPart) → y.item ≡ Some p → is_executing p.stage ≡ true → WasThere j p

  keeps : Keeps Known GoesOn
  keeps =
      record {
        due = λ t p j x known is. record { net = is.net; item = is.item };
        net = λ f spec net j x is.
            record {
              net = λ n m e at.
                  let (old, was, now) = map_some f x.net n e in
                  let same = is.net old m was at in
                  (ap (λ (q : NetPart). q.spec) (sym now) ∙ spec old ∙ same.0, ap (λ (q : NetPart). q.net) (sym now) ∙ net old ∙ same.1);
              item = is.item;
            };
        gone = λ j x is. record { net = λ n m e at. nowhere e; item = is.item };
        completed = λ out j x is.
            record {
              net = is.net;
              item = λ p e runs. let (old, was, now) = map_some (completed out) x.item p e in never (subst (λ (q : ItemPart). is_executing q.stage ≡ true) (sym now) runs);
            };
        marked = λ mark j x is. record { net = is.net; item = is.item };
        comes = λ t x known j given.
            record {
              net = λ n m e at. nowhere e;
              item = λ p e runs. never (subst (λ (q : ItemPart). is_executing q.stage ≡ true) (sym (some_same _ p e)) runs);
            };
      }

  -- an item that was there is begun
  begun_there : (j : Ident) (who : Option (List ℕ)) (x : Site) (p : ItemPart) → get s.sites j ≡ Some x → option_map (begun who) x.item ≡ Some p
      → ((y : ItemAt) → item_at s j ≡ Some y → is_atomic y.of_task.task ≡ true → is_some who ≡ true) → WasThere j p
  begun_there j who x p at e started =
      let (old, was, now) = map_some (begun who) x.item p e in
      record {
        before = old;
        stood = ap (option_and_then (λ (y : Site). y.item)) at ∙ was;
        task = ap (λ (q : ItemPart). q.task) (sym now);
        started = λ y found atomic. subst (λ (q : ItemPart). is_some q.who ≡ true) now (started y found atomic);
      }

  module _ (numbers : NumbersFit s) (nets : NetsStand s) (parents : ParentsStand s) where
    -- the number of a case that begins was not drawn
    nothing_there : {A : Type 0} (n : ℕ) (m : NetPart) → (n == s.next) ≡ true → net_part s (case_ident n) ≡ Some m → A
    nothing_there n m next e =
        let (x, at) = at_net_part s (case_ident n) m e in
        let below : n < s.next = ltb-true n s.next (and_left _ _ (numbers.drawn (case_ident n) x at)) in
        absurd (let is : n ≡ s.next = eqb-true n s.next next in omega arith)

    no_net_yet : {A : Type 0} (j : Ident) (m : NetPart) (x : ItemAt) → net_part s j ≡ Some m → item_at s j ≡ Some x → is_ready x.part.stage ≡ true → A
    no_net_yet j m x at found ready = no_both x.part.stage ready (and_left _ _ (and_left (wants_net x) _ (nets.of_item j m x at found)))

    puts : (e : Event) (said : Said) → allows s e said ≡ true → Puts Known GoesOn s e
    unfolding allows
    puts (events.Load name text) (a_spec spec) ok =
        λ l known other old e.
        let new : has_key s.specs name ≡ false = not-true _ (and_right (bytes_eq spec.name name) _ ok) in
        get-insert_other by_name s.specs name l other (λ same. never (sym new ∙ ap is_some (ap (get s.specs) (sym same) ∙ e))) ∙ e
    puts (events.Load name text) nothing ok = never ok
    puts (events.Load name text) (a_test test) ok = never ok
    puts (events.Launch n name vals) said ok =
        λ spec net known.
        record {
          net = λ k m e at. nothing_there n m (and_left _ _ (and_left _ _ ok)) at;
          item = λ p e runs. nowhere e;
        }
    puts (events.Start j who) said ok =
        λ x at is. record { net = is.net; item = λ p e runs. begun_there j (Some who) x p at e (λ y found atomic. refl) }
    puts (events.StartSub j) said ok =
        λ i n x found at is.
        let here : composite_is (λ y. is_ready y.part.stage) i ≡ true =
        ap (λ o. is_some_and o (composite_is (λ y. is_ready y.part.stage))) (sym found) ∙ and_right _ _ ok in
        record {
          net = λ k m e stood. no_net_yet j m i stood found (and_left _ _ here);
          item = λ p e runs.
              begun_there j i.part.who x p at e
              (λ y again atomic. let same : y ≡ i = some_same y i (sym again ∙ found) in
              no_child i.of_task.task (ap (λ (z : ItemAt). is_atomic z.of_task.task) (sym same) ∙ atomic) (and_right _ _ here));
        }
    puts e said ok = tt

    -- ---- before and after

    at_first : HasNoWorklet s → Holds Known GoesOn s
    at_first none = (
      λ name l e. e,
      λ j x at.
          record {
            net = λ n m e stood.
                let same : n ≡ m = some_same n m (sym e ∙ sym (ap (option_and_then (λ (y : Site). y.net)) at) ∙ stood) in
                (ap (λ (q : NetPart). q.spec) same, ap (λ (q : NetPart). q.net) same);
            item = λ p e runs.
                let stood : item_part s j ≡ Some p = ap (option_and_then (λ (y : Site). y.item)) at ∙ e in
                record {
                  before = p;
                  stood = stood;
                  task = refl;
                  started = λ y found atomic.
                      let same : y.part ≡ p = some_same y.part p (sym (is_item s j y found).part ∙ stood) in
                      ap (λ (q : ItemPart). is_some q.who) (sym same) ∙ none.started j y found atomic (ap (λ (q : ItemPart). is_executing q.stage) same ∙ runs);
                };
          },
    )

    module _ (t : State) (holds : Holds Known GoesOn t) where
      -- the net is the same as before
      same_net : (i : Ident) (n m : NetAt) → IsNet s i n → IsNet t i m → m.net ≡ n.net
      same_net i n m was now =
          let (x, at, net) = then_some (λ (z : Site). z.net) (get t.sites i) m.part now.part in
          let same = (holds.1 i x at).net m.part n.part net was.part in
          let (l, known, is) = map_some (λ (l : Loaded). l.spec) (get s.specs n.part.spec) was.spec was.called in
          let called : spec_called t n.part.spec ≡ Some was.spec = ap (option_map (λ (m : Loaded). m.spec)) (holds.0 n.part.spec l known) ∙ ap Some is in
          let spec : now.spec ≡ was.spec = some_same now.spec was.spec (sym now.called ∙ ap (spec_called t) same.0 ∙ called) in
          some_same m.net n.net (sym now.numbered ∙ ap (λ (q : Spec). slice_get q.nets m.part.net) spec ∙ ap (slice_get was.spec.nets) same.1 ∙ was.numbered)

      same_task : (j : Ident) (x y : ItemAt) → IsItem s j x → IsItem t j y → y.part.task ≡ x.part.task → y.of_task.task ≡ x.of_task.task
      same_task j x y was now number =
          let net = same_net (parent j) was.within now.within was.net now.net in
          some_same y.of_task.task x.of_task.task
          (sym now.task ∙ ap (λ (q : Net). slice_get q.tasks y.part.task) net ∙ ap (slice_get was.within.net.tasks) number ∙ was.task)

      none_then : HasNoWorklet t
      none_then =
          record {
            started = λ j y e atomic runs.
                let now = is_item t j y e in
                let (site, at, item) = then_some (λ (z : Site). z.item) (get t.sites j) y.part now.part in
                let old = (holds.1 j site at).item y.part item runs in
                let (x, found) = there (item_at s j) (parents.item_of_net j old.before old.stood) in
                let was = is_item s j x found in
                let same : x.part ≡ old.before = some_same x.part old.before (sym was.part ∙ old.stood) in
                let task = same_task j x y was now (old.task ∙ sym (ap (λ (q : ItemPart). q.task) same)) in
                old.started x found (ap is_atomic (sym task) ∙ atomic);
          }

    pub none_stays : (e : Event) (said : Said) → HasNoWorklet s → keeps_plain e ≡ true → Allowed s e said → HasNoWorklet (after s e said)
    none_stays e said none is allowed =
        none_then (after s e said) (event-holds Known GoesOn keeps s e said (at_first none) (puts e said allowed.0) is)

  -- a net at an item of an atomic task is a worklet's
  pub no_net : NetsStand s → HasNoWorklet s → (j : Ident) (x : ItemAt) → item_at s j ≡ Some x → is_atomic x.of_task.task ≡ true → net_part s j ≡ None
  no_net nets none j x found atomic =
      by_option (net_part s j) (λ e. e)
      (λ n at.
      let wants = and_left (wants_net x) _ (nets.of_item j n x at found) in
      elim (or_cases (is_composite x) (has_worklet x) (and_right _ _ wants)) [
        | inl composite ↦ no_child x.of_task.task atomic composite
        | inr worklet ↦ nobody x.part.who (none.started j x found atomic (and_left _ _ wants)) (and_right _ _ worklet)
      ])
    where
      nobody : {A : Type 0} (who : Option (List ℕ)) → is_some who ≡ true → is_none who ≡ true → A
      nobody None someone no_one = never someone
      nobody (Some name) someone no_one = never no_one
