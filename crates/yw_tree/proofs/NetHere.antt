-- The net at an identity, whether of a case, an item or a run: what a change of it does to the whole forest.
use Rattle.std.proofs.Common.{◌≡◌, ◌≤◌, ℕ, false, cond, refl, length, Option, Some, None, List, [], ◌∷◌, ◌++◌, ap, subst, sym, ◌∙◌}
use Rattle.std.specs.Prelude.{Box, option_and_then, option_map}
use Rattle.std.specs.declared.alloc.Global.{Global}
use Rattle.yw_base.specs.Identity.{under}
use Rattle.yw_sites.specs.Entries.{AllUnder, Entries, Swaps}
use Rattle.yw_sites.specs.Idents.{AreChildren, Each, IsChild}
use Rattle.yw_sites.proofs.Children.{children_front}
use Rattle.yw_sites.proofs.Dropped.{above, get-drop_all, untouched}
use Rattle.yw_sites.proofs.Each.{nil_right}
use Rattle.yw_state.specs.After.{with_net as with_part}
use Rattle.yw_state.specs.Identity.{Ident, case_ident}
use Rattle.yw_state.specs.Map.{get}
use Rattle.yw_state.specs.State.{NetPart, Site, Sites, drop_all, no_checks}
use Rattle.yw_state.proofs.Tests.{map_some, nowhere, some_same}
use Rattle.yw_tree.specs.Boxed.{AtNet, AtNode, AtRun, Held, IsBoxedNet, IsBoxedRun, IsNetAt, ids, net_ids, run_ids}
use Rattle.yw_tree.specs.Cases.{case_at}
use Rattle.yw_tree.specs.Entries.{below_net, below_run, net_entries, net_part, net_part_of, run_site}
use Rattle.yw_tree.specs.Forest.{IsForest, entries, item_of, item_part_replaced, item_net_replaced, top_replaced, sites_of, top_of, with_top}
use Rattle.yw_tree.specs.Places.{over_run_net, placed_run, run_of}
use Rattle.yw_tree.specs.Shows.{ShowsNet, StandsBeside}
use Rattle.yw_tree.specs.Ways.{net_in, with_net, with_net_in_run}
use Rattle.yw_tree.specs.declared.Case.{Case}
use Rattle.yw_tree.specs.declared.Forest.{Forest}
use Rattle.yw_tree.specs.declared.NetState.{NetState}
use Rattle.yw_tree.specs.declared.Node.{Node, out-Node}
use Rattle.yw_tree.specs.declared.Run.{Run, Run-F, out-Run, out-roll-Run, every_here-Run}
use Rattle.yw_tree.proofs.Beside.{none_beside, run_beside, run_known}
use Rattle.yw_tree.proofs.CaseLaw.{its, top_changes, top_shown}
use Rattle.yw_tree.proofs.ForestLaw.{InCase, item_found}
use Rattle.yw_tree.proofs.Found.{boxed_in}
use Rattle.yw_tree.proofs.Induct.{below_every_node, below_every_run}
use Rattle.yw_tree.proofs.Made.{made_run}
use Rattle.yw_tree.proofs.NetLaw.{net_lifted, shown}
use Rattle.yw_tree.proofs.PartNet.{net_changes, net_shown}
use Rattle.yw_tree.proofs.RunLaw.{opened, run_found}
use Rattle.yw_tree.proofs.TaskCut.{its_children, its_net}
-- that a net stands at an identity, as the definitions say it
pub use Rattle.yw_tree.specs.Lent.{NetHere}

-- ---- of a case
pub top_here : (f : Forest) (n : ℕ) (s : NetState) → IsForest f → top_of f n ≡ Some s → NetHere f (case_ident n) s (top_replaced f n)
top_here f n s b e =
    let c = map_some (λ (c : Case). c.net) (case_at n f.cases) s e in
    subst (λ z. NetHere f (case_ident n) z (top_replaced f n)) c.2 (of_case c.0 c.1)
  where
    of_case : (c : Case) → case_at n f.cases ≡ Some c → NetHere f (case_ident n) c.net (top_replaced f n)
    of_case c at =
        let i = its (λ k. []) f b n c at in
        let children : AreChildren (case_ident n) (ids c.net ++ run_ids c.run) = subst (λ z. AreChildren z (ids c.net ++ run_ids c.run)) i.0 i.1.here in
        record {
          boxed = i.1.net;
          others = run_ids c.run;
          here = children;
          beside = λ names. below_run names c.run;
          stands = λ names. run_beside names (case_ident n) c.run (ids c.net) i.1.run children;
          stands_with = λ js fits names. run_beside names (case_ident n) c.run js i.1.run fits;
          shows = λ names. top_shown names f b n c at c.net i.1.net children;
          known = λ names. run_known names (case_ident n) c.run;
          lift = λ w wb fits names m shows own outside.
              subst (λ (o : Option Case). (sites_of names (with_top f n w o) ≡ m) × IsForest (with_top f n w o)) (sym at) (top_changes names f b n c at w wb fits m shows own outside);
        }

-- ---- of an item
pub item_net_here : (f : Forest) (id : Ident) (n : Node) (s : NetState) → IsForest f → InCase id → item_of f id ≡ Some n → net_in (out-Node n).net ≡ Some s → NetHere f id s (item_net_replaced f id)
item_net_here f id n s b within e at =
    let g = item_found f id n b e in
    let children = its_children f id n s s b within e at in
    record {
      boxed = its_net f id n s s b within e at;
      others = run_ids (out-Node n).run;
      here = children;
      beside = λ names. below_run names (out-Node n).run;
      stands = λ names. run_beside names id (out-Node n).run (ids s) (below_every_node AtNet AtNode AtRun n g.1).1 children;
      stands_with = λ js fits names. run_beside names id (out-Node n).run js (below_every_node AtNet AtNode AtRun n g.1).1 fits;
      shows = λ names. shown names f id n b within e s at;
      known = λ names. run_known names id (out-Node n).run;
      lift = λ w wb fits names m shows own outside.
          subst (λ (o : Option Node). (sites_of names (item_part_replaced f id w o) ≡ m) × IsForest (item_part_replaced f id w o)) (sym e) (net_lifted names f id n b within e s w at wb fits m shows own outside);
    }

-- ---- of a run
abbrev Level : Type 0
Level = Run-F NetState Node Run

module _ (f : Forest) (id : Ident) (long : 1 ≤ length id) (r : Run) (s : NetState) (b : IsForest f) (e : run_of f id ≡ Some r) (at : net_in (out-Run r).net ≡ Some s) where
  own : ((out-Run r).id ≡ id) × IsBoxedRun r
  own = run_found f id r b e

  held : (w : NetState) (o : Option (Box NetState Global)) → net_in o ≡ Some s
      → (net_ids o ≡ ids s) × ((names : ℕ → List ℕ) → below_net names o ≡ (net_entries names s).1) × ((names : ℕ → List ℕ) → net_part_of names o ≡ Some (net_part names s))
      × (net_ids (with_net o w) ≡ ids w) × ((names : ℕ → List ℕ) → below_net names (with_net o w) ≡ (net_entries names w).1) × ((names : ℕ → List ℕ) → net_part_of names (with_net o w) ≡ Some (net_part names w))
      × (IsBoxedNet w → Held IsBoxedNet (with_net o w))
  held w None h = nowhere h
  held w (Some x) h =
      let k = some_same x.value s h in
      (ap ids k, λ names. ap (λ (z : NetState). (net_entries names z).1) k, λ names. ap (λ (z : NetState). Some (net_part names z)) k, refl, λ names. refl, λ names. refl, λ wb. wb)

  children : AreChildren id (ids s ++ [])
  children =
      let all : AreChildren (out-Run r).id (net_ids (out-Run r).net) = every_here-Run AtNet AtNode AtRun r own.1 in
      subst (AreChildren id) (sym (nil_right (ids s))) (subst (λ z. AreChildren z (ids s)) own.0 (subst (AreChildren (out-Run r).id) (held s (out-Run r).net at).0 all))

  module _ (names : ℕ → List ℕ) (w : NetState) (wb : IsBoxedNet w) (fits : AreChildren id (ids w ++ [])) where
    abbrev level : Level
    level = record (out-Run r) { net = with_net (out-Run r).net w }

    new_boxed : IsBoxedRun (with_net_in_run r w)
    new_boxed =
        let h = held w (out-Run r).net at in
        let l : Level = level in
        made_run AtNet AtNode AtRun l (subst (λ z. AreChildren z (net_ids l.net)) (sym own.0) (subst (AreChildren id) (sym h.3) (subst (AreChildren id) (nil_right (ids w)) fits))) (h.6 wb)

    new_id : (out-Run (with_net_in_run r w)).id ≡ (out-Run r).id
    new_id = ap (λ (z : Level). z.id) (out-roll-Run level)

    abbrev site_open : Level → Site
    site_open l = record { net = net_part_of names l.net; item = None; run = Some (record { rest = l.rest; waiting = l.waiting }); suspended = false; due = no_checks }

    new_site : run_site names (with_net_in_run r w) ≡ record (run_site names r) { net = Some (net_part names w) }
    new_site = ap site_open (out-roll-Run level) ∙ (λ j. record (run_site names r) { net = (held w (out-Run r).net at).5 names j })

    new_below : below_net names (out-Run (with_net_in_run r w)).net ≡ (net_entries names w).1 ++ []
    new_below = ap (λ (z : Level). below_net names z.net) (out-roll-Run level) ∙ (held w (out-Run r).net at).4 names ∙ sym (nil_right (net_entries names w).1)

    old_below : below_net names (out-Run r).net ≡ (net_entries names s).1 ++ []
    old_below = (held w (out-Run r).net at).1 names ∙ sym (nil_right (net_entries names s).1)

    placing : Swaps id ((id, run_site names r) ∷ below_net names (out-Run r).net) ((id, run_site names (with_net_in_run r w)) ∷ below_net names (out-Run (with_net_in_run r w)).net) (entries names f) (entries names (placed_run f id (with_net_in_run r w)))
        × AllUnder id (below_net names (out-Run r).net) × AllUnder id (below_net names (out-Run (with_net_in_run r w)).net) × IsForest (placed_run f id (with_net_in_run r w))
    placing = opened names f b id long r (with_net_in_run r w) e new_id new_boxed

    run_shows : ShowsNet names (sites_of names f) id [] s
    run_shows =
        let h = held w (out-Run r).net at in
        net_shown id (run_site names r) (run_site names (with_net_in_run r w)) (below_net names (out-Run r).net) (below_net names (out-Run (with_net_in_run r w)).net) (entries names f) (entries names (placed_run f id (with_net_in_run r w)))
        placing.0 placing.1 placing.2 names [] s w old_below new_below (h.2 names) new_site

    run_changes : (m : Sites) → ShowsNet names m id [] w → get m id ≡ option_map (with_part (λ _. net_part names w)) (get (sites_of names f) id) → ((q : Ident) → under q id ≡ false → get m q ≡ get (sites_of names f) q)
        → (sites_of names (placed_run f id (with_net_in_run r w)) ≡ m) × IsForest (placed_run f id (with_net_in_run r w))
    run_changes m shows own_site outside =
        let h = held w (out-Run r).net at in (
          net_changes id (run_site names r) (run_site names (with_net_in_run r w)) (below_net names (out-Run r).net) (below_net names (out-Run (with_net_in_run r w)).net) (entries names f) (entries names (placed_run f id (with_net_in_run r w)))
              placing.0 placing.1 placing.2 names [] s w old_below new_below (h.2 names) new_site m shows own_site outside,
          placing.3,
        )

  nothing_beside : (js : List Ident) → StandsBeside id js []
  nothing_beside js = record { quiet = λ q x d h. nowhere h; apart = none_beside (λ k. []) id js }

  net_boxed : IsBoxedNet s
  net_boxed = boxed_in (out-Run r).net s (below_every_run AtNet AtNode AtRun r own.1) at

  pub run_net_here : NetHere f id s (λ w. over_run_net f id w (run_of f id))
  run_net_here = record {
    boxed = net_boxed;
    others = [];
    here = children;
    beside = λ names. [];
    stands = λ names. nothing_beside (ids s);
    stands_with = λ js fits names. nothing_beside js;
    shows = λ names. run_shows names s net_boxed children;
    known = λ names. tt;
    lift = λ w wb fits names m shows own_site outside.
        subst (λ (o : Option Run). (sites_of names (over_run_net f id w o) ≡ m) × IsForest (over_run_net f id w o)) (sym e) (run_changes names w wb fits m shows own_site outside);
  }

-- what has this net keeps it
pub same_part : (p : NetPart) (o : Option Site) → option_and_then (λ (x : Site). x.net) o ≡ Some p → option_map (with_part (λ _. p)) o ≡ o
same_part p None h = refl
same_part p (Some x) h = ap (λ (z : Option NetPart). Some (record x { net = z })) (ap (option_map (λ (_ : NetPart). p)) h ∙ sym h)

-- ---- all under some items goes

module _ (f : Forest) (id : Ident) (s : NetState) (placed : NetState → Forest) (h : NetHere f id s placed) (w : NetState) (wb : IsBoxedNet w) (fewer : (i : Ident) (js : List Ident) → AreChildren i (ids s ++ js) → AreChildren i (ids w ++ js)) where
  pub cut_here : (names : ℕ → List ℕ) (js : List Ident) → Each (IsChild id) js
      → ((beside : Entries) → StandsBeside id (ids s) beside → ShowsNet names (sites_of names f) id beside s → ShowsNet names (drop_all (sites_of names f) js) id beside w)
      → (sites_of names (placed w) ≡ drop_all (sites_of names f) js) × IsForest (placed w)
  cut_here names js c shows =
      let m = sites_of names f in
      let now = shows (h.beside names) (h.stands names) (h.shows names) in
      let same_at : get (drop_all m js) id ≡ get m id = get-drop_all m js id ∙ ap (λ z. cond z None (get m id)) (above id js c) in
      let part : option_and_then (λ (x : Site). x.net) (get m id) ≡ Some (net_part names w) = ap (option_and_then (λ (x : Site). x.net)) (sym same_at) ∙ now.part in
      h.lift w wb (fewer id h.others h.here) names (drop_all m js) now (same_at ∙ sym (same_part (net_part names w) (get m id) part))
      (λ q u. get-drop_all m js q ∙ ap (λ z. cond z None (get m q)) (untouched id q js c u))

  pub net_at_here : IsNetAt id s
  net_at_here = children_front id (ids s) h.others h.here
