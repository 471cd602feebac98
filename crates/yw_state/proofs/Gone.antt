-- Behind an event that removes an identity, nothing stands under it.
use Rattle.std.specs.Prelude.{◌≡◌, ℕ, ◌&&◌, ◌||◌, Bool, true, false, not, List, [], Option, Some, None, is_some, fold, slice_set, unwrap_or, refl}
use Rattle.std.proofs.Common.{◌∙◌, ap, inl, inr}
use Rattle.yw_base.specs.Identity.{under, parent}
use Rattle.yw_spec.specs.declared.spec.Place.{Place}
use Rattle.yw_state.specs.After.{change, complete, completed, end_net, exit, items_gone, make_due, produce, region_emptied, values_assigned, where_some, wipe, with_item, with_run, with_sites}
use Rattle.yw_state.specs.Allowed.{Allowed, allows, exit_values, place_numbers}
use Rattle.yw_state.specs.ByName.{made_of_given, made_by_child, made_by_worklet}
use Rattle.yw_state.specs.Events.{after}
use Rattle.yw_state.specs.Exlets.{case_above, end_compensation, primitive, take_primitive, taken_first}
use Rattle.yw_state.specs.Gone.{cut_back_removes, exit_removes, primitive_removes, removes}
use Rattle.yw_state.specs.Identity.{Ident, case_ident, same, strictly_under}
use Rattle.yw_state.specs.Judged.{case_place}
use Rattle.yw_state.specs.Map.{get, retain}
use Rattle.yw_state.specs.Options.{is_some_and}
use Rattle.yw_state.specs.State.{ItemAt, ItemPart, NetAt, Sites, State, TaskAt, bare, no_checks, bare_but, item_at, item_part, net_at, net_part, task_at}
use Rattle.yw_state.specs.Texts.{Said}
use Rattle.yw_state.specs.Values.{Row}
use Rattle.yw_state.specs.Words.{is_completed}
use Rattle.yw_state.specs.declared.event.Event.{Event}
use Rattle.yw_state.specs.declared.event.Event.TheVariants as events
use Rattle.yw_state.specs.declared.part.Stage.TheVariants.{Ready}
use Rattle.yw_state.specs.declared.tree.TreeKind.TheVariants.{Post}
use Rattle.yw_state.specs.declared.tree.Primitive.{Primitive}
use Rattle.yw_state.specs.declared.tree.Primitive.TheVariants.{SuspendItem, ContinueItem, RestartItem, CompleteItem, RemoveItem, SuspendCase, ContinueCase, RemoveCase, Compensate, Unknown}
use Rattle.yw_state.proofs.Absent.{IsGone, change-keeps, each-keeps, end_if_over-keeps, if-keeps, make_select_due-keeps, part-kept, update-keeps, where_some-gone}
use Rattle.yw_state.proofs.Leaving.{Stays, drop-gone, net-stays, region-gone, step, without_items-gone, without_items-stays}
use Rattle.yw_state.proofs.MapLemmas.{by_name, get-retain_gone, never}
use Rattle.yw_state.proofs.Tests.{and_left, and_right, is_not, or_cases, there, there_and}

-- ---- restrictions

pub bare-gone : (m : Sites) (j k : Ident) → strictly_under k j ≡ true → get (bare m j) k ≡ None
bare-gone m j k below = update-keeps (retain m (λ q. not (strictly_under q j))) j _ k (get-retain_gone by_name m _ k (ap not below))

is_cut : (a b : Bool) → (a && not b) ≡ true → (not a || b) ≡ false
is_cut true b e = is_not b e
is_cut false b e = never e

pub bare_but-gone : (m : Sites) (j r k : Ident) → (strictly_under k j && not (same k r)) ≡ true → get (bare_but m j r) k ≡ None
bare_but-gone m j r k cut =
    update-keeps (retain m (λ q. not (strictly_under q j) || same q r)) j _ k
    (get-retain_gone by_name m _ k (is_cut (strictly_under k j) (same k r) cut))

-- ---- the state in which an exit has taken the task's items, made its assignments and emptied the places of its removal set

abbrev without_tokens : State → Ident → TaskAt → State
without_tokens s i x = wipe (values_assigned s i x) i x.task.drop_places

without_tokens-stays : (q k : Ident) → under k q ≡ true → (s : State) (i : Ident) (x : TaskAt) → Stays q k s (without_tokens s i x)
without_tokens-stays q k below s i x =
    step q k below (step q k below (without_items-stays q k below s i x.number) (net-stays q k below (items_gone s i x) i (λ n. record n { vals = exit_values s i x })))
    (net-stays q k below (values_assigned s i x) i (λ n. record n { tokens = fold (λ tokens c. slice_set tokens c 0) n.tokens x.task.drop_places }))

-- ---- the state in which a run has taken its first primitive

abbrev pub taken : State → Ident → State
taken s r = change s r (with_run taken_first)

same_net : (s : State) (r i : Ident) → net_part (taken s r) i ≡ net_part s i
same_net s r i = part-kept (λ x. x.net) (with_run taken_first) (λ x. refl) s.sites r i

same_item : (s : State) (r j : Ident) → item_part (taken s r) j ≡ item_part s j
same_item s r j = part-kept (λ x. x.item) (with_run taken_first) (λ x. refl) s.sites r j

pub same_item_at : (s : State) (r j : Ident) → item_at (taken s r) j ≡ item_at s j
same_item_at s r j = rw (same_net s r (parent j), same_item s r j) refl

module _ (k : Ident) where
  complete-keeps : (s : State) (j : Ident) (out : Row) (x : ItemAt) → IsGone k s → IsGone k (complete s j out x)
  complete-keeps s j out x none = change-keeps k (change s j (with_item (completed out))) j _ (change-keeps k s j _ none)

  -- ---- a net is at its end

  end_net-gone : (s : State) (j : Ident) (made : NetAt → ItemAt → Row) (x : ItemAt) (n : NetAt) → net_at s j ≡ Some n → strictly_under k j ≡ true → IsGone k (end_net s j made x)
  end_net-gone s j made x n e below =
      where_some-gone k (net_at s j) s _ n e (complete-keeps (with_sites s (bare s.sites j)) j (made n x) x (bare-gone s.sites j k below))

  ended-gone : (s : State) (j : Ident) (made : NetAt → ItemAt → Row) → is_some (item_at s j) ≡ true → is_some (net_at s j) ≡ true → strictly_under k j ≡ true → IsGone k (where_some (item_at s j) s (end_net s j made))
  ended-gone s j made item net below =
      let x = there (item_at s j) item in
      let n = there (net_at s j) net in
      where_some-gone k (item_at s j) s _ x.0 x.1 (end_net-gone s j made x.0 n.0 n.1 below)

  -- ---- a task exits

  emptied-gone : (s : State) (i : Ident) (x : TaskAt) → exit_removes s i k x ≡ true → IsGone k (region_emptied s i x)
  emptied-gone s i x some =
      elim (or_cases _ _ some) [
        | inl own ↦
            each-keeps k i x.task.drop_tasks (without_tokens s i x)
            (change-keeps k (values_assigned s i x) i _ (change-keeps k (items_gone s i x) i _ (without_items-gone s i x.number k own)))
        | inr of_set ↦ region-gone i k x.task.drop_tasks s (without_tokens s i x) (λ q below. without_tokens-stays q k below s i x) of_set
      ]

  exit-gone : (s : State) (i : Ident) (places : List Place) (x : TaskAt) → exit_removes s i k x ≡ true → IsGone k (exit s i places x)
  exit-gone s i places x some =
      let cs : List ℕ = unwrap_or (place_numbers x.within.net places) [] in
      let t : State = produce (region_emptied s i x) i cs in
      let gone : IsGone k t = change-keeps k (region_emptied s i x) i _ (emptied-gone s i x some) in
      if-keeps k _ (make_due t i (case_place x.within.part.spec Post)) t (change-keeps k t i _ gone) gone

  -- ---- a run takes a primitive

  cut_back-gone : (s : State) (r j : Ident) (f : ItemPart → ItemPart) → (strictly_under k j && not (same k r)) ≡ true → IsGone k (change (with_sites s (bare_but s.sites j r)) j (λ x. record (with_item f x) { due = no_checks }))
  cut_back-gone s r j f cut = change-keeps k (with_sites s (bare_but s.sites j r)) j _ (bare_but-gone s.sites j r k cut)

  restarted-gone : (s : State) (r : Ident) → (is_some (item_at s (parent r)) && cut_back_removes r k) ≡ true → IsGone k (primitive s r (parent r) RestartItem)
  restarted-gone s r removed =
      let x = there (item_at s (parent r)) (and_left _ _ removed) in
      let cut = cut_back-gone s r (parent r) (λ y. record y { stage = Ready; who = None; made = [] }) (and_right _ _ removed) in
      where_some-gone k (item_at s (parent r)) s _ x.0 x.1 (make_select_due-keeps k _ (parent r) x.0.of_task cut)

  completed-gone : (s : State) (r : Ident) → (is_some_and (item_at s (parent r)) (λ x. not (is_completed x.part.stage)) && cut_back_removes r k) ≡ true → IsGone k (primitive s r (parent r) CompleteItem)
  completed-gone s r removed =
      let x = there_and (item_at s (parent r)) _ (and_left _ _ removed) in
      let cut = cut_back-gone s r (parent r) (completed (made_of_given x.0)) (and_right _ _ removed) in
      where_some-gone k (item_at s (parent r)) s _ x.0 x.1 (rw (is_not _ x.2) cut)

  primitive-gone : (s : State) (r : Ident) (p : Primitive) → primitive_removes s r k p ≡ true → IsGone k (primitive s r (parent r) p)
  primitive-gone s r SuspendItem removed = never removed
  primitive-gone s r ContinueItem removed = never removed
  primitive-gone s r RestartItem removed = restarted-gone s r removed
  primitive-gone s r CompleteItem removed = completed-gone s r removed
  primitive-gone s r RemoveItem removed = drop-gone s.sites (parent r) k removed
  primitive-gone s r SuspendCase removed = never removed
  primitive-gone s r ContinueCase removed = never removed
  primitive-gone s r RemoveCase removed = drop-gone s.sites (case_above r) k removed
  primitive-gone s r (Compensate name) removed = never removed
  primitive-gone s r (Unknown text) removed = never removed

  same_removes : (s : State) (r : Ident) (p : Primitive) → primitive_removes (taken s r) r k p ≡ primitive_removes s r k p
  same_removes s r RestartItem = ap (λ (o : Option ItemAt). is_some o && cut_back_removes r k) (same_item_at s r (parent r))
  same_removes s r CompleteItem = ap (λ (o : Option ItemAt). is_some_and o (λ x. not (is_completed x.part.stage)) && cut_back_removes r k) (same_item_at s r (parent r))
  same_removes s r p = refl

  taken-gone : (s : State) (r : Ident) (p : Primitive) → primitive_removes s r k p ≡ true → IsGone k (take_primitive s r p)
  taken-gone s r p removed =
      end_if_over-keeps k (primitive (taken s r) r (parent r) p) r (primitive-gone (taken s r) r p (same_removes s r p ∙ removed))

  -- ---- a compensation is at its end

  compensated-gone : (s : State) (r : Ident) → strictly_under k r ≡ true → IsGone k (end_compensation s r)
  compensated-gone s r below = end_if_over-keeps k _ r (change-keeps k (with_sites s (bare s.sites r)) r _ (bare-gone s.sites r k below))

  -- ---- the law

  has_net : (s : State) (j : Ident) (p : NetAt → Bool) → is_some_and (net_at s j) p ≡ true → is_some (net_at s j) ≡ true
  has_net s j p e = let n = there_and (net_at s j) p e in ap is_some n.1

  has_item : (s : State) (j : Ident) (p : ItemAt → Bool) → is_some_and (item_at s j) p ≡ true → is_some (item_at s j) ≡ true
  has_item s j p e = let x = there_and (item_at s j) p e in ap is_some x.1

  net_ended-gone : (s : State) (j : Ident) (made : NetAt → ItemAt → Row) (a : Bool) (p : ItemAt → Bool) (q : NetAt → Bool)
      → (a && is_some_and (item_at s j) p && is_some_and (net_at s j) q) ≡ true → strictly_under k j ≡ true → IsGone k (where_some (item_at s j) s (end_net s j made))
  net_ended-gone s j made a p q allowed below =
      ended-gone s j made (has_item s j p (and_right a _ (and_left _ _ allowed))) (has_net s j q (and_right _ _ allowed)) below

  pub removed-gone : (s : State) (e : Event) (said : Said) → Allowed s e said → removes s e k ≡ true → IsGone k (after s e said)
  unfolding after allows removes
  removed-gone s (events.Exit i t places) said allowed removed =
      let x = there_and (task_at s i t) (exit_removes s i k) removed in
      where_some-gone k (task_at s i t) s _ x.0 x.1 (exit-gone s i places x.0 x.2)
  removed-gone s (events.Finish n) said allowed removed = drop-gone s.sites (case_ident n) k removed
  removed-gone s (events.Cancel n) said allowed removed = drop-gone s.sites (case_ident n) k removed
  removed-gone s (events.CompleteSub j) said allowed removed = net_ended-gone s j made_by_child _ _ _ allowed.0 removed
  removed-gone s (events.CompleteWorklet j) said allowed removed = net_ended-gone s j made_by_worklet _ _ _ allowed.0 removed
  removed-gone s (events.Prim r p) said allowed removed = taken-gone s r p removed
  removed-gone s (events.Compensated r) said allowed removed = compensated-gone s r removed
  removed-gone s e said allowed removed = never removed
