-- What is so of each site that stands stays so behind an event of neither a rule tree nor an exlet, and behind one that suspends or continues
-- something, where it is so of what the event puts there. Beside it goes what is so of specifications and rules.
use Rattle.std.specs.Prelude.{◌≡◌, ℕ, Bool, true, false, List, [], ◌∷◌, fold, length, Option, Some, None, refl, unwrap_or, if◌then◌else◌}
use Rattle.std.specs.List.{range_with_len, zip}
use Rattle.std.specs.Ordering.{eq_by_cmp}
use Rattle.std.proofs.Common.{sym, ◌∙◌, ap, subst, inl, inr}
use Rattle.yw_base.specs.declared.value.Value.{Value}
use Rattle.yw_spec.specs.declared.spec.Net.{Net}
use Rattle.yw_spec.specs.declared.spec.Place.{Place}
use Rattle.yw_spec.specs.declared.spec.Spec.{Spec}
use Rattle.yw_plain.specs.Plain.{keeps_plain}
use Rattle.yw_state.proofs.MapLemmas.{by_name, get-update_other, get-update_same, insert_stands, retain_stands, tied, tied_self}
use Rattle.yw_state.proofs.Tests.{by_test, map_some, never}
use Rattle.yw_state.specs.After
use Rattle.yw_state.specs.Allowed.{place_numbers}
use Rattle.yw_state.specs.ByName.{made_by_child}
use Rattle.yw_state.specs.Events.{after}
use Rattle.yw_state.specs.Identity.{Ident, case_ident}
use Rattle.yw_base.specs.Identity.{child}
use Rattle.yw_state.specs.Judged.{case_place, has_rules, task_place}
use Rattle.yw_state.specs.Map.{Map, get, insert, lexical, lexical_each, retain, update}
use Rattle.yw_state.specs.Passing.{entry_values, given_values}
use Rattle.yw_state.specs.RuleTree.{TreeRule}
use Rattle.yw_state.specs.State.{State, Site, Sites, ItemAt, NetAt, NetPart, TaskAt, bare, drop, drop_all, item_at, items_of, net_at, spec_called, task_at, top_called, without_net}
use Rattle.yw_state.specs.Texts.{Said, a_spec, a_test, nothing}
use Rattle.yw_state.specs.Values.{Row}
use Rattle.yw_state.specs.Well.{Stands}
use Rattle.yw_state.specs.declared.event.Event.{Event}
use Rattle.yw_state.specs.declared.event.Event.TheVariants as events
use Rattle.yw_state.specs.declared.loaded.Loaded.{Loaded}
use Rattle.yw_state.specs.declared.part.Way.{Way}
use Rattle.yw_state.specs.declared.part.Way.TheVariants.{Cancelled, Finished}
use Rattle.yw_state.specs.declared.tree.TreeKind.TheVariants.{Post}
use Rattle.yw_state.specs.declared.tree.TreePlace.{TreePlace}

-- of specifications and rules, and of a site at its identity
module _ (R : Map lexical Loaded → Map lexical_each (List TreeRule) → Type 0) (P : Ident → Site → Type 0) where
  -- ---- maps

  abbrev pub Each : Sites → Type 0
  Each m = (j : Ident) (x : Site) → get m j ≡ Some x → P j x

  insert-each : (m : Sites) (j : Ident) (x : Site) → Each m → P j x → Each (insert m j x)
  insert-each m j x each new k y at =
      elim (insert_stands by_name m j x k y at) [ inl here ↦ subst (λ i. P i y) (sym here.0) (subst (P j) here.1 new) | inr there ↦ each k y there ]

  update-each : (m : Sites) (j : Ident) (f : Site → Site) → Each m → ((x : Site) → get m j ≡ Some x → P j (f x)) → Each (update m j f)
  update-each m j f each new k y at =
      by_test (eq_by_cmp lexical k j)
      (λ t. let same = tied by_name k j t in
      let (x, was, is) = map_some f (get m j) y (sym (get-update_same by_name m j f) ∙ ap (get (update m j f)) (sym same) ∙ at) in
      subst (λ i. P i y) (sym same) (subst (P j) is (new x was)))
      (λ t. let other : ¬ (k ≡ j) = λ e. never (sym t ∙ ap (λ q. eq_by_cmp lexical q j) e ∙ tied_self by_name j) in
      each k y (sym (get-update_other by_name m j f k other) ∙ at))

  retain-each : (m : Sites) (p : Ident → Bool) → Each m → Each (retain m p)
  retain-each m p each k y at = each k y (retain_stands by_name m p k y at).0

  drop_all-each : (js : List Ident) (m : Sites) → Each m → Each (drop_all m js)
  drop_all-each [] m each = each
  drop_all-each (j ∷ js) m each = drop_all-each js (drop m j) (retain-each m _ each)

  -- ---- states

  abbrev pub Holds : State → Type 0
  Holds s = R s.specs s.rules × Each s.sites

  where_some-holds : {A : Type 0} (o : Option A) (s : State) (f : A → State)
      → Holds s → ((x : A) → o ≡ Some x → Holds (f x)) → Holds (After.where_some o s f)
  where_some-holds None s f holds each = holds
  where_some-holds (Some x) s f holds each = each x refl

  where_spec-holds : (s : State) (name : List ℕ) (f : Spec → Net → State)
      → Holds s → ((spec : Spec) (net : Net) → Holds (f spec net)) → Holds (After.where_spec s name f)
  where_spec-holds s name f holds each =
      where_some-holds (spec_called s name) s _ holds (λ spec found. where_some-holds (top_called s name) s (f spec) holds (λ net top. each spec net))

  if-holds : (b : Bool) (s t : State) → Holds s → Holds t → Holds (if b then s else t)
  if-holds true s t there here = there
  if-holds false s t there here = here

  fold-holds : {A : Type 0} (f : State → A → State)
      → ((s : State) (a : A) → Holds s → Holds (f s a)) → (xs : List A) (s : State) → Holds s → Holds (fold f s xs)
  fold-holds f each [] s holds = holds
  fold-holds f each (a ∷ rest) s holds = fold-holds f each rest (f s a) (each s a holds)

  change-holds : (s : State) (j : Ident) (f : Site → Site) → Holds s → ((x : Site) → Stands s j x → P j (f x)) → Holds (After.change s j f)
  change-holds s j f holds new = (holds.0, update-each s.sites j f holds.1 new)

  -- ---- what is changed, and items that come

  -- It stays so where a check becomes due, where a net gets other values or tokens or goes, where an item is completed, and where a mark is set or
  -- taken away; and it is so of an item that comes with its checks.
  pub record Keeps : Type 0 where
    pub due : (s : State) (p : TreePlace) (j : Ident) (x : Site)
        → R s.specs s.rules → P j x → P j (record x { due = After.due_where (has_rules s p) p.kind x.due })
    pub net : (f : NetPart → NetPart)
        → ((n : NetPart) → (f n).spec ≡ n.spec) → ((n : NetPart) → (f n).net ≡ n.net) → (j : Ident) (x : Site) → P j x → P j (After.with_net f x)
    pub gone : (j : Ident) (x : Site) → P j x → P j (without_net x)
    pub completed : (out : Row) (j : Ident) (x : Site) → P j x → P j (After.with_item (After.completed out) x)
    pub marked : (mark : Bool) (j : Ident) (x : Site) → P j x → P j (record x { suspended = mark })
    pub comes : (s : State) (x : TaskAt) → R s.specs s.rules → (j : Ident) (given : Row) → P j (After.new_item x.number given (After.item_checks s x))

  -- So is what an event puts that loads a specification, begins a case or an item, or begins a child net.
  abbrev pub Puts : State → Event → Type 0
  Puts s (events.Load name text) = (l : Loaded) → R s.specs s.rules → R (insert s.specs name l) s.rules
  Puts s (events.Launch n name vals) =
      (spec : Spec) (net : Net) → R s.specs s.rules → P (case_ident n) (After.new_case name spec net vals (After.case_checks s name))
  Puts s (events.Start j who) = (x : Site) → Stands s j x → P j x → P j (After.with_item (After.begun (Some who)) x)
  Puts s (events.StartSub j) =
      (i : ItemAt) (n : NetPart) (x : Site)
      → item_at s j ≡ Some i → Stands s j x → P j x → P j (After.stands n (After.with_item (After.begun i.part.who) x))
  Puts s e = Unit {0}

  module _ (keeps : Keeps) where
    make_due-holds : (s : State) (j : Ident) (p : TreePlace) → Holds s → Holds (After.make_due s j p)
    make_due-holds s j p holds = change-holds s j _ holds (λ x at. keeps.due s p j x holds.0 (holds.1 j x at))

    bare-holds : (s : State) (j : Ident) → Holds s → Holds (After.with_sites s (bare s.sites j))
    bare-holds s j holds =
        let left : Each (retain s.sites _) = retain-each s.sites _ holds.1 in
        (holds.0, update-each (retain s.sites _) j without_net left (λ x at. keeps.gone j x (left j x at)))

    add_items-holds : (x : TaskAt) (i : Ident) (first : ℕ) (rows : List Row) (s : State) → Holds s → Holds (After.add_items x i first rows s)
    add_items-holds x i first rows s holds =
        fold-holds (After.add_item x i (After.item_checks s x))
        (λ t e there. (there.0, insert-each t.sites (child i e.0) _ there.1 (keeps.comes s x holds.0 (child i e.0) e.1)))
        (zip (range_with_len first (length rows)) rows) s holds

    without_items-holds : (i : Ident) (s : State) (k : ℕ) → Holds s → Holds (After.without_items i s k)
    without_items-holds i s k holds = (holds.0, drop_all-each (After.idents (items_of s i k)) s.sites holds.1)

    complete-holds : (s : State) (j : Ident) (out : Row) (x : ItemAt) → Holds s → Holds (After.complete s j out x)
    complete-holds s j out x holds =
        make_due-holds (After.change s j (After.with_item (After.completed out))) j (task_place x.of_task Post)
        (change-holds s j _ holds (λ y at. keeps.completed out j y (holds.1 j y at)))

    -- values and tokens change
    net-holds : (s : State) (i : Ident) (f : NetPart → NetPart)
        → ((n : NetPart) → (f n).spec ≡ n.spec) → ((n : NetPart) → (f n).net ≡ n.net) → Holds s → Holds (After.change s i (After.with_net f))
    net-holds s i f spec net holds = change-holds s i _ holds (λ x at. keeps.net f spec net i x (holds.1 i x at))

    tokens-holds : (s : State) (i : Ident) (f : List ℕ → ℕ → List ℕ) (cs : List ℕ) → Holds s → Holds (After.on_each s i f cs)
    tokens-holds s i f cs holds = net-holds s i _ (λ n. refl) (λ n. refl) holds

    -- ---- rows

    load-holds : (s : State) (name text : List ℕ) (said : Said) → Holds s → Puts s (events.Load name text) → Holds (After.load s name text said)
    load-holds s name text nothing holds puts = holds
    load-holds s name text (a_spec spec) holds puts = (puts (record { text = text; spec = spec }) holds.0, holds.1)
    load-holds s name text (a_test test) holds puts = holds

    launch-holds : (s : State) (n : ℕ) (name : List ℕ) (vals : Row)
        → Holds s → Puts s (events.Launch n name vals) → Holds (After.launch s n name vals)
    launch-holds s n name vals holds puts =
        where_spec-holds s name _ holds (λ spec net. (holds.0, insert-each s.sites (case_ident n) _ holds.1 (puts spec net holds.0)))

    enter-holds : (s : State) (i : Ident) (places : List Place) (first : ℕ) (x : TaskAt) → Holds s → Holds (After.enter s i places first x)
    enter-holds s i places first x holds =
        let cs : List ℕ = unwrap_or (place_numbers x.within.net places) [] in
        let rows : List Row = unwrap_or (entry_values x.task x.within.part.vals) [] in
        add_items-holds x i first rows (After.take s i cs) (tokens-holds s i After.one_less cs holds)

    add-holds : (s : State) (i : Ident) (value : Value) (n : ℕ) (x : TaskAt) → Holds s → Holds (After.add s i value n x)
    add-holds s i value n x holds =
        where_some-holds (given_values x.task x.within.part.vals (Some value)) s _ holds (λ given found. add_items-holds x i n (given ∷ []) s holds)

    start_sub-holds : (s : State) (j : Ident) (x : ItemAt)
        → item_at s j ≡ Some x → Holds s → Puts s (events.StartSub j) → Holds (After.start_sub s j x)
    start_sub-holds s j x found holds puts =
        where_some-holds _ s _ holds (λ e numbered. change-holds s j _ holds (λ y at. puts x _ y found at (holds.1 j y at)))

    end_net-holds : (s : State) (j : Ident) (made : NetAt → ItemAt → Row) (x : ItemAt) → Holds s → Holds (After.end_net s j made x)
    end_net-holds s j made x holds =
        where_some-holds (net_at s j) s _ holds (λ n found. complete-holds (After.with_sites s (bare s.sites j)) j (made n x) x (bare-holds s j holds))

    exit-holds : (s : State) (i : Ident) (places : List Place) (x : TaskAt) → Holds s → Holds (After.exit s i places x)
    exit-holds s i places x holds =
        let cs : List ℕ = unwrap_or (place_numbers x.within.net places) [] in
        let assigned : State = After.values_assigned s i x in
        let wiped : State = After.wipe assigned i x.task.drop_places in
        let emptied : State = After.region_emptied s i x in
        let marked : State = After.produce emptied i cs in
        let post : TreePlace = case_place x.within.part.spec Post in
        let there : Holds marked =
        tokens-holds emptied i After.one_more cs (fold-holds (After.without_items i) (without_items-holds i) x.task.drop_tasks wiped
        (tokens-holds assigned i After.no_more x.task.drop_places
        (net-holds (After.items_gone s i x) i _ (λ n. refl) (λ n. refl) (without_items-holds i s x.number holds)))) in
        if-holds _ (After.make_due marked i post) marked (make_due-holds marked i post there) there

    end_case-holds : (s : State) (n : ℕ) (way : Way) → Holds s → Holds (After.end_case s n way)
    end_case-holds s n way holds = (holds.0, retain-each s.sites _ holds.1)

    pub event-holds : (s : State) (e : Event) (said : Said) → Holds s → Puts s e → keeps_plain e ≡ true → Holds (after s e said)
    unfolding after
    event-holds s (events.Person name roles) said holds puts is = holds
    event-holds s (events.Load name text) said holds puts is = load-holds s name text said holds puts
    event-holds s (events.Launch n spec vals) said holds puts is = launch-holds s n spec vals holds puts
    event-holds s (events.Enter i t places first count) said holds puts is = where_some-holds (task_at s i t) s _ holds (λ x found. enter-holds s i places first x holds)
    event-holds s (events.Start j who) said holds puts is = change-holds s j _ holds (λ x at. puts x at (holds.1 j x at))
    event-holds s (events.Complete j out) said holds puts is = where_some-holds (item_at s j) s _ holds (λ x found. complete-holds s j out x holds)
    event-holds s (events.Exit i t places) said holds puts is = where_some-holds (task_at s i t) s _ holds (λ x found. exit-holds s i places x holds)
    event-holds s (events.Add i t value n) said holds puts is = where_some-holds (task_at s i t) s _ holds (λ x found. add-holds s i value n x holds)
    event-holds s (events.Finish n) said holds puts is = end_case-holds s n Finished holds
    event-holds s (events.Cancel n) said holds puts is = end_case-holds s n Cancelled holds
    event-holds s (events.StartSub j) said holds puts is = where_some-holds (item_at s j) s _ holds (λ x found. start_sub-holds s j x found holds puts)
    event-holds s (events.CompleteSub j) said holds puts is = where_some-holds (item_at s j) s _ holds (λ x found. end_net-holds s j made_by_child x holds)
    event-holds s (events.CompleteEmpty j) said holds puts is = change-holds s j _ holds (λ x at. keeps.completed [] j x (holds.1 j x at))
    event-holds s (events.Suspend j) said holds puts is = change-holds s j _ holds (λ x at. keeps.marked true j x (holds.1 j x at))
    event-holds s (events.Continue j) said holds puts is = change-holds s j _ holds (λ x at. keeps.marked false j x (holds.1 j x at))
    event-holds s (events.Advance n) said holds puts is = holds
    event-holds s e said holds puts is = never is
