-- Where a task exits, nothing stays under its items and under those of the tasks of its removal set.
use Rattle.std.specs.Prelude.{◌≡◌, ◌⊎◌, ℕ, ◌==◌, ◌&&◌, ◌||◌, Bool, true, false, not, List, [], ◌∷◌, map, fold, Option, Some, None, option_and_then, refl, if◌then◌else◌}
use Rattle.std.specs.List.{list_any}
use Rattle.std.proofs.Common.{sym, ◌∙◌, ap, subst, inl, inr}
use Rattle.std.proofs.lemmas.Bool.{eqb-true}
use Rattle.yw_base.specs.Identity.{under}
use Rattle.yw_state.specs.After.{change, with_net, with_sites, without_items}
use Rattle.yw_state.specs.Gone.{under_item}
use Rattle.yw_state.specs.Identity.{Ident}
use Rattle.yw_state.specs.Map.{entries, get}
use Rattle.yw_state.specs.State.{ItemPart, NetPart, Site, Sites, State, drop, drop_all, item_of_task, item_part, items_of, no_checks}
use Rattle.yw_state.proofs.Absent.{IsGone, drop_all-keeps, each-keeps, idents_of, part-kept, retain-keeps, update-keeps}
use Rattle.yw_state.proofs.Entries.{IsIn, comes_from, entry-found, find-entry, mapped_in, passes, passing}
use Rattle.yw_state.proofs.MapLemmas.{by_name, by_test, get-retain_gone, get-retain_kept, never, nowhere, some_same}
use Rattle.yw_state.proofs.Tests.{and_left, and_right}

-- ---- identities

pub under-trans : (k j i : Ident) → under k j ≡ true → under j i ≡ true → under k i ≡ true
under-trans k j [] a b = refl
under-trans k [] (x ∷ i) a b = never b
under-trans [] (y ∷ j) (x ∷ i) a b = never a
under-trans (z ∷ k) (y ∷ j) (x ∷ i) a b =
    let first : (x == z) ≡ true = ap (λ n. x == n) (sym (eqb-true y z (and_left _ _ a))) ∙ and_left _ _ b in
    ap (λ c. c && under k i) first ∙ under-trans k j i (and_right _ _ a) (and_right _ _ b)

-- ---- all under an identity goes

pub drop-gone : (m : Sites) (j k : Ident) → under k j ≡ true → get (drop m j) k ≡ None
drop-gone m j k below = get-retain_gone by_name m _ k (ap not below)

pub drop_all-gone : (es : List (Ident × ItemPart)) (m : Sites) (k : Ident) → list_any (λ (e : Ident × ItemPart). under k e.0) es ≡ true → get (drop_all m (map (λ (e : Ident × ItemPart). e.0) es)) k ≡ None
drop_all-gone [] m k some = never some
drop_all-gone (e ∷ es) m k some =
    by_test (under k e.0)
    (λ here. drop_all-keeps (map (λ (f : Ident × ItemPart). f.0) es) (drop m e.0) k (drop-gone m e.0 k here))
    (λ none. drop_all-gone es (drop m e.0) k (ap (λ b. b || list_any (λ (f : Ident × ItemPart). under k f.0) es) (sym none) ∙ some))

pub without_items-gone : (s : State) (i : Ident) (t : ℕ) (k : Ident) → under_item s i k t ≡ true → IsGone k (without_items i s t)
without_items-gone s i t k some = drop_all-gone (items_of s i t) s.sites k some

-- ---- an item stays, or all under it is gone

-- From s to t the item at q stays what it was, or nothing stands at k any longer.
pub record Stays (q k : Ident) (s t : State) : Type 0 where
  pub item : (item_part t q ≡ item_part s q) ⊎ IsGone k t
  pub gone : IsGone k s → IsGone k t

module _ (q k : Ident) (below : under k q ≡ true) where
  pub nothing-stays : (s : State) → Stays q k s s
  nothing-stays s = record { item = inl refl; gone = λ e. e }

  joined : (s t u : State) → Stays q k t u → (item_part t q ≡ item_part s q) ⊎ IsGone k t → (item_part u q ≡ item_part s q) ⊎ IsGone k u
  joined s t u b (inr gone) = inr (b.gone gone)
  joined s t u b (inl same) = elim (b.item) [ inl e ↦ inl (e ∙ same) | inr gone ↦ inr gone ]

  pub step : {s t u : State} → Stays q k s t → Stays q k t u → Stays q k s u
  step {s} {t} {u} a b = record { item = joined s t u b a.item; gone = λ e. b.gone (a.gone e) }

  drop-stays : (s : State) (j : Ident) → Stays q k s (with_sites s (drop s.sites j))
  drop-stays s j = record {
    item = by_test (under k j)
        (λ e. inr (drop-gone s.sites j k e))
        (λ e. inl (ap (option_and_then (λ (x : Site). x.item)) (get-retain_kept by_name s.sites _ q
        (by_test (under q j) (λ f. never (sym e ∙ under-trans k q j below f)) (λ f. ap not f)))));
    gone = retain-keeps s.sites _ k;
  }

  drop_all-stays : (js : List Ident) (s : State) → Stays q k s (with_sites s (drop_all s.sites js))
  drop_all-stays [] s = nothing-stays s
  drop_all-stays (j ∷ js) s = step (drop-stays s j) (drop_all-stays js (with_sites s (drop s.sites j)))

  pub without_items-stays : (s : State) (i : Ident) (t : ℕ) → Stays q k s (without_items i s t)
  without_items-stays s i t = drop_all-stays (idents_of s i t) s

  pub net-stays : (s : State) (i : Ident) (f : NetPart → NetPart) → Stays q k s (change s i (with_net f))
  net-stays s i f = record { item = inl (part-kept (λ x. x.item) (with_net f) (λ x. refl) s.sites i q); gone = update-keeps s.sites i _ k }

-- ---- the items of tasks

-- the item at q, if one is there, as one of task t in the net at i
as_item : Ident → ℕ → Ident → Option ItemPart → Option (Ident × ItemPart)
as_item i t q o = item_of_task i t q (record { net = None; item = o; run = None; suspended = false; due = no_checks })

-- An item of task t in the net at i, with k under it.
record ItemAbove (s : State) (i : Ident) (t : ℕ) (k : Ident) : Type 0 where
  item : Ident
  entry : Ident × ItemPart
  is : as_item i t item (item_part s item) ≡ Some entry
  above : under k item ≡ true

if_some : {A : Type 0} (b : Bool) (o : Option A) (y : A) → (if b then o else None) ≡ Some y → o ≡ Some y
if_some true o y e = e
if_some false o y e = nowhere e

part_ident : (t : ℕ) (q : Ident) (o : Option ItemPart) (y : Ident × ItemPart) → option_and_then (λ (x : ItemPart). if x.task == t then Some (q, x) else None) o ≡ Some y → q ≡ y.0
part_ident t q None y e = nowhere e
part_ident t q (Some x) y e = ap (λ (z : Ident × ItemPart). z.0) (some_same _ _ (if_some _ _ y e))

same_ident_of : (i : Ident) (t : ℕ) (q : Ident) (x : Site) (y : Ident × ItemPart) → item_of_task i t q x ≡ Some y → q ≡ y.0
same_ident_of i t q x y e = part_ident t q x.item y (if_some _ _ y e)

item_above : (s : State) (i : Ident) (t : ℕ) (k : Ident) → under_item s i k t ≡ true → ItemAbove s i t k
unfolding as_item
item_above s i t k some =
    let from = comes_from (λ (e : Ident × Site). item_of_task i t e.0 e.1) (λ (e : Ident × ItemPart). under k e.0) (entries s.sites) some in
    let here : get s.sites from.0.0 ≡ Some from.0.1 = find-entry by_name (entries s.sites) from.0 s.sites.sorted from.2 in
    record {
      item = from.0.0;
      entry = from.1;
      is = ap (λ o. as_item i t from.0.0 (option_and_then (λ (x : Site). x.item) o)) here ∙ from.3;
      above = ap (under k) (same_ident_of i t from.0.0 from.0.1 from.1 from.3) ∙ from.4;
    }

-- the item is among those that go
among : (s : State) (i : Ident) (t : ℕ) (q k : Ident) (y : Ident × ItemPart) (o : Option Site) → get s.sites q ≡ o → as_item i t q (option_and_then (λ (x : Site). x.item) o) ≡ Some y → under k q ≡ true → under_item s i k t ≡ true
unfolding as_item
among s i t q k y None here is above = nowhere (if_some _ _ y is)
among s i t q k y (Some x) here is above =
    passes (λ (e : Ident × ItemPart). under k e.0) (items_of s i t) y
    (mapped_in (λ (e : Ident × Site). item_of_task i t e.0 e.1) (entries s.sites) (q, x) y (entry-found by_name (entries s.sites) q x here) is)
    (ap (under k) (sym (same_ident_of i t q x y is)) ∙ above)

-- ---- the tasks of the removal set, one behind another

module _ (i q k : Ident) (below : under k q ≡ true) (y : Ident × ItemPart) (t : ℕ) where
  task-gone : (s : State) → (as_item i t q (item_part s q) ≡ Some y) ⊎ IsGone k s → IsGone k (without_items i s t)
  task-gone s (inl is) = without_items-gone s i t k (among s i t q k y (get s.sites q) refl is below)
  task-gone s (inr gone) = drop_all-keeps (idents_of s i t) s.sites k gone

  tasks-gone : (us : List ℕ) (s r : State) → IsIn us t → as_item i t q (item_part r q) ≡ Some y → Stays q k r s → IsGone k (fold (without_items i) s us)
  tasks-gone [] s r within is stays = absurd within
  tasks-gone (u ∷ us) s r (inl same) is stays =
      each-keeps k i us (without_items i s u)
      (subst (λ v. IsGone k (without_items i s v)) (sym same)
      (task-gone s (elim (stays.item) [ inl e ↦ inl (ap (as_item i t q) e ∙ is) | inr gone ↦ inr gone ])))
  tasks-gone (u ∷ us) s r (inr rest) is stays = tasks-gone us (without_items i s u) r rest is (step q k below stays (without_items-stays q k below s i u))

-- under an item of one of these tasks, as they stand in r, nothing stands once the items of all of them went
pub region-gone : (i k : Ident) (us : List ℕ) (r s : State) → ((q : Ident) → under k q ≡ true → Stays q k r s) → list_any (under_item r i k) us ≡ true → IsGone k (fold (without_items i) s us)
region-gone i k us r s stays some =
    let one = passing (under_item r i k) us some in
    let above = item_above r i one.0 k one.2 in
    tasks-gone i above.item k above.above above.entry one.0 us s r one.1 above.is (stays above.item above.above)
