-- Behind an event that ends a net, no net stands there.
use Rattle.std.specs.Prelude.{◌≡◌, ◌&&◌, Bool, true, false, not, [], Option, Some, None, is_some, option_map, option_and_then, refl, if◌then◌else◌}
use Rattle.std.proofs.Common.{◌∙◌, ap, subst}
use Rattle.yw_state.specs.After.{change, complete, completed, end_net, make_select_due, where_some, with_item, with_sites}
use Rattle.yw_state.specs.Allowed.{Allowed, allows}
use Rattle.yw_state.specs.ByName.{made_by_child, made_by_worklet, made_of_given}
use Rattle.yw_state.specs.Events.{after}
use Rattle.yw_state.specs.Exlets.{end_compensation, end_if_over, primitive, take_primitive}
use Rattle.yw_state.specs.Gone.{net_ended, primitive_ends}
use Rattle.yw_state.specs.Identity.{Ident}
use Rattle.yw_base.specs.Identity.{parent}
use Rattle.yw_state.specs.Map.{get, retain, update}
use Rattle.yw_state.specs.Options.{is_some_and}
use Rattle.yw_state.specs.State.{ItemAt, ItemPart, NetAt, Site, State, TaskAt, bare, bare_but, item_at, net_at, net_part, no_checks}
use Rattle.yw_state.specs.Texts.{Said}
use Rattle.yw_state.specs.Values.{Row}
use Rattle.yw_state.specs.Words.{is_completed}
use Rattle.yw_state.specs.declared.event.Event.{Event}
use Rattle.yw_state.specs.declared.event.Event.TheVariants as events
use Rattle.yw_state.specs.declared.part.Stage.TheVariants.{Ready}
use Rattle.yw_state.specs.declared.tree.Primitive.{Primitive}
use Rattle.yw_state.specs.declared.tree.Primitive.TheVariants.{RestartItem, CompleteItem}
use Rattle.yw_state.proofs.Absent.{part-kept}
use Rattle.yw_state.proofs.Gone.{same_item_at, taken}
use Rattle.yw_state.proofs.MapLemmas.{by_name, by_test, get-retain_gone, get-retain_kept, get-update_same, nowhere, some_same}
use Rattle.yw_state.proofs.Tests.{and_left, and_right, is_not, there, there_and}

without_net : (o : Option Site) → option_and_then (λ (x : Site). x.net) (option_map (λ (x : Site). record x { net = None }) o) ≡ None
without_net None = refl
without_net (Some x) = refl

module _ (j : Ident) where
  abbrev NoNet : State → Type 0
  NoNet s = net_part s j ≡ None

  cut-none : (s : State) (p : Ident → Bool) → NoNet (with_sites s (update (retain s.sites p) j (λ x. record x { net = None })))
  cut-none s p = ap (option_and_then (λ (x : Site). x.net)) (get-update_same by_name (retain s.sites p) j _) ∙ without_net (get (retain s.sites p) j)

  change-none : (s : State) (i : Ident) (f : Site → Site) → ((x : Site) → (f x).net ≡ x.net) → NoNet s → NoNet (change s i f)
  change-none s i f leaves none = part-kept (λ x. x.net) f leaves s.sites i j ∙ none

  if-none : (b : Bool) (s t : State) → NoNet s → NoNet t → NoNet (if b then s else t)
  if-none true s t there here = there
  if-none false s t there here = here

  retain-none : (s : State) (p : Ident → Bool) → NoNet s → NoNet (with_sites s (retain s.sites p))
  retain-none s p none =
      by_test (p j)
      (λ kept. ap (option_and_then (λ (x : Site). x.net)) (get-retain_kept by_name s.sites p j kept) ∙ none)
      (λ gone. ap (option_and_then (λ (x : Site). x.net)) (get-retain_gone by_name s.sites p j gone))

  end_if_over-none : (s : State) (r : Ident) → NoNet s → NoNet (end_if_over s r)
  end_if_over-none s r none = if-none _ _ _ (retain-none s _ none) none

  where_some-none : {A : Type 0} (o : Option A) (s : State) (f : A → State) (x : A) → o ≡ Some x → NoNet (f x) → NoNet (where_some o s f)
  where_some-none o s f x e none = rw e none

  complete-none : (s : State) (out : Row) (x : ItemAt) → NoNet s → NoNet (complete s j out x)
  complete-none s out x none = change-none (change s j (with_item (completed out))) j _ (λ x. refl) (change-none s j _ (λ x. refl) none)

  ended-none : (s : State) (made : NetAt → ItemAt → Row) (a : Bool) (p : ItemAt → Bool) (q : NetAt → Bool)
      → (a && is_some_and (item_at s j) p && is_some_and (net_at s j) q) ≡ true → NoNet (where_some (item_at s j) s (end_net s j made))
  ended-none s made a p q allowed =
      let x = there_and (item_at s j) p (and_right a _ (and_left _ _ allowed)) in
      let n = there_and (net_at s j) q (and_right _ _ allowed) in
      where_some-none (item_at s j) s _ x.0 x.1 (where_some-none (net_at s j) s _ n.0 n.1 (complete-none (with_sites s (bare s.sites j)) (made n.0 x.0) x.0 (cut-none s _)))

  -- ---- an item begins anew, or counts as completed

  make_select_due-none : (s : State) (x : TaskAt) → NoNet s → NoNet (make_select_due s j x)
  make_select_due-none s x none = if-none _ _ _ (change-none s j _ (λ x. refl) none) none

  cut_back-none : (s : State) (r : Ident) (f : ItemPart → ItemPart) → NoNet (change (with_sites s (bare_but s.sites j r)) j (λ x. record (with_item f x) { due = no_checks }))
  cut_back-none s r f = change-none (with_sites s (bare_but s.sites j r)) j _ (λ x. refl) (cut-none s _)

  restarted-none : (s : State) (r : Ident) → is_some (item_at s j) ≡ true → NoNet (primitive s r j RestartItem)
  restarted-none s r some =
      let x = there (item_at s j) some in
      where_some-none (item_at s j) s _ x.0 x.1
      (make_select_due-none _ x.0.of_task (cut_back-none s r (λ y. record y { stage = Ready; who = None; made = [] })))

  completed-none : (s : State) (r : Ident) → is_some_and (item_at s j) (λ x. not (is_completed x.part.stage)) ≡ true → NoNet (primitive s r j CompleteItem)
  completed-none s r some =
      let x = there_and (item_at s j) _ some in
      where_some-none (item_at s j) s _ x.0 x.1 (rw (is_not _ x.2) (cut_back-none s r (completed (made_of_given x.0))))

  compensated-none : (s : State) → NoNet (end_compensation s j)
  compensated-none s = end_if_over-none _ j (change-none (with_sites s (bare s.sites j)) j _ (λ x. refl) (cut-none s _))

-- ---- the law

where_test : (b : Bool) (i j : Ident) → (if b then Some i else None) ≡ Some j → (b ≡ true) × (i ≡ j)
where_test true i j e = (refl, some_same i j e)
where_test false i j e = nowhere e

taken-none : (s : State) (r : Ident) (p : Primitive) (j : Ident) → primitive_ends s r p ≡ Some j → NoNet j (take_primitive s r p)
taken-none s r RestartItem j ends =
    let here = where_test (is_some (item_at s (parent r))) (parent r) j ends in
    subst (λ (i : Ident). NoNet i (take_primitive s r RestartItem)) here.1
    (end_if_over-none (parent r) (primitive (taken s r) r (parent r) RestartItem) r
    (restarted-none (parent r) (taken s r) r (ap is_some (same_item_at s r (parent r)) ∙ here.0)))
taken-none s r CompleteItem j ends =
    let here = where_test (is_some_and (item_at s (parent r)) (λ x. not (is_completed x.part.stage))) (parent r) j ends in
    subst (λ (i : Ident). NoNet i (take_primitive s r CompleteItem)) here.1
    (end_if_over-none (parent r) (primitive (taken s r) r (parent r) CompleteItem) r
    (completed-none (parent r) (taken s r) r (ap (λ (o : Option ItemAt). is_some_and o (λ x. not (is_completed x.part.stage))) (same_item_at s r (parent r)) ∙ here.0)))
taken-none s r p j ends = nowhere ends

at_other : (i j : Ident) (t : State) → Some i ≡ Some j → NoNet i t → NoNet j t
at_other i j t e none = subst (λ k. NoNet k t) (some_same i j e) none

pub ended-net-gone : (s : State) (e : Event) (said : Said) (j : Ident) → Allowed s e said → net_ended s e ≡ Some j → net_part (after s e said) j ≡ None
unfolding after allows net_ended
ended-net-gone s (events.CompleteSub i) said j allowed ends = at_other i j (where_some (item_at s i) s (end_net s i made_by_child)) ends (ended-none i s made_by_child _ _ _ allowed.0)
ended-net-gone s (events.CompleteWorklet i) said j allowed ends = at_other i j (where_some (item_at s i) s (end_net s i made_by_worklet)) ends (ended-none i s made_by_worklet _ _ _ allowed.0)
ended-net-gone s (events.Prim r p) said j allowed ends = taken-none s r p j ends
ended-net-gone s (events.Compensated r) said j allowed ends = at_other r j (end_compensation s r) ends (compensated-none r s)
ended-net-gone s e said j allowed ends = nowhere ends
