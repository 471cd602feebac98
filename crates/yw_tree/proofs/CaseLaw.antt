-- A case in place of another, as a part of the forest.
use Rattle.std.proofs.Common.{List, None, Option, Some, [], ap, cond, false, refl, subst, sym, true, ℕ, ◌++◌, ◌∙◌, ◌∷◌, ◌≡◌}
use Rattle.std.specs.Prelude.{option_and_then, option_map}
use Rattle.yw_base.specs.Identity.{under}
use Rattle.yw_sites.proofs.Children.{children_front}
use Rattle.yw_sites.proofs.Dropped.{above, get-drop_all, untouched}
use Rattle.yw_sites.proofs.Each.{Each-append, each_mid}
use Rattle.yw_sites.proofs.Parts.{own_changes, own_was}
use Rattle.yw_tree.proofs.PartNet.{net_changes, net_shown}
use Rattle.yw_sites.proofs.Prefix.{under_refl}
use Rattle.yw_sites.proofs.Swaps.{swaps_whole}
use Rattle.yw_sites.specs.Entries.{Entries, AllUnder, Swaps}
use Rattle.yw_sites.specs.Idents.{AreChildren, Each, IsChild}
use Rattle.yw_state.proofs.Tests.{map_some}
use Rattle.yw_state.specs.After.{with_net as with_part}
use Rattle.yw_state.specs.Identity.{Ident, case_ident}
use Rattle.yw_state.specs.Map.{get, update}
use Rattle.yw_state.specs.State.{NetPart, Site, Sites, drop_all}
use Rattle.yw_tree.proofs.Beside.{run_beside}
use Rattle.yw_tree.proofs.Keys.{held_keys, net_keys, run_under}
use Rattle.yw_tree.proofs.Table.{in_table, table_placed}
use Rattle.yw_tree.specs.Boxed.{IsBoxedCase, IsBoxedNet, IsNetAt, ids, run_ids}
use Rattle.yw_tree.specs.Cases.{case_at, with_case}
use Rattle.yw_tree.specs.Entries.{below_run, case_entries, case_site, net_entries, net_part}
use Rattle.yw_tree.specs.Forest.{IsForest, entries, top_replaced, sites_of, top_of, with_top}
use Rattle.yw_tree.specs.Shows.{ShowsNet, StandsBeside}
use Rattle.yw_tree.specs.declared.Case.{Case}
use Rattle.yw_tree.specs.declared.Forest.{Forest}
use Rattle.yw_tree.specs.declared.NetState.{NetState}

module _ (names : ℕ → List ℕ) (f : Forest) (b : IsForest f) (n : ℕ) (c : Case) (e : case_at n f.cases ≡ Some c) where
  abbrev Well : ℕ × Case → Type 0
  Well e = (e.1.id ≡ case_ident e.0) × IsBoxedCase e.1

  pub its : (c.id ≡ case_ident n) × IsBoxedCase c
  its = let t = in_table n f.cases c e in each_mid Well t.front (n, c) t.back (subst (Each Well) t.whole b.1)

  abbrev pub below : Case → Entries
  below d = (net_entries names d.net).1 ++ below_run names d.run

  module _ (d : Case) (same_id : d.id ≡ c.id) (db : IsBoxedCase d) where
    abbrev pub after : Forest
    after = record { cases = with_case n f.cases d }

    below_under : (k : Case) → IsBoxedCase k → AllUnder k.id (below k)
    below_under k kb = Each-append (λ (z : Ident × Site). under z.0 k.id ≡ true) (net_entries names k.net).1 (below_run names k.run)
        (net_keys names k.net k.id kb.net (children_front k.id (ids k.net) (run_ids k.run) kb.here))
        (run_under names k.id k.run (ids k.net) (held_keys names k.run) kb.run kb.here)

    pub placing : Swaps (case_ident n) ((case_ident n, case_site names c) ∷ below c) ((case_ident n, case_site names d) ∷ below d) (entries names f) (entries names after) × IsForest after
    placing =
        let t = in_table n f.cases c e in
        let w = each_mid Well t.front (n, c) t.back (subst (Each Well) t.whole b.1) in
        let p = table_placed names (case_ident n) n (under_refl (case_ident n)) (case_entries names c) (case_entries names d) f.cases c d b e (λ cb. record { swaps = swaps_whole (case_ident n) (case_entries names c) (case_entries names d); same_id = same_id; boxed = db }) in
        let first : case_entries names c ≡ (case_ident n, case_site names c) ∷ below c = ap (λ z. (z, case_site names c) ∷ below c) w.0 in
        let second : case_entries names d ≡ (case_ident n, case_site names d) ∷ below d = ap (λ z. (z, case_site names d) ∷ below d) (same_id ∙ w.0) in (
          subst (λ z. Swaps (case_ident n) z ((case_ident n, case_site names d) ∷ below d) (entries names f) (entries names after)) first
              (subst (λ z. Swaps (case_ident n) (case_entries names c) z (entries names f) (entries names after)) second p.0),
          p.1,
        )

    pub under_was : AllUnder (case_ident n) (below c)
    under_was = subst (λ z. AllUnder z (below c)) its.0 (below_under c its.1)

    pub under_is : AllUnder (case_ident n) (below d)
    under_is = subst (λ z. AllUnder z (below d)) (same_id ∙ its.0) (below_under d db)

    -- its own site changes
    pub case_own : (h : Site → Site) → below d ≡ below c → case_site names d ≡ h (case_site names c) → sites_of names after ≡ update (sites_of names f) (case_ident n) h
    case_own h rest own = own_changes (case_ident n) (case_site names c) (case_site names d) (below c) (below d) (entries names f) (entries names after) placing.0 under_was under_is h rest own

  -- the map has the case at its identity
  pub case_stands : get (sites_of names f) (case_ident n) ≡ Some (case_site names c)
  case_stands = own_was (case_ident n) (case_site names c) (case_site names c) (below c) (below c) (entries names f) (entries names (after c refl its.1)) (placing c refl its.1).0 (under_was c refl its.1) (under_is c refl its.1)

  -- ---- another net
  module _ (w : NetState) (wb : IsBoxedNet w) (fits : AreChildren (case_ident n) (ids w ++ run_ids c.run)) where
    abbrev pub renewed : Case
    renewed = record c { net = w }

    top_boxed : IsBoxedCase (record c { net = w })
    top_boxed = record { here = subst (λ z. AreChildren z (ids w ++ run_ids c.run)) (sym its.0) fits; net = wb; run = its.1.run }

    pub top_shown : ShowsNet names (sites_of names f) (case_ident n) (below_run names c.run) c.net
    top_shown =
        net_shown (case_ident n) (case_site names c) (case_site names renewed) (below c) (below renewed) (entries names f) (entries names (after renewed refl top_boxed)) (placing renewed refl top_boxed).0
        (under_was renewed refl top_boxed) (under_is renewed refl top_boxed) names (below_run names c.run) c.net w refl refl refl refl

    pub top_changes : (m : Sites) → ShowsNet names m (case_ident n) (below_run names c.run) w → get m (case_ident n) ≡ option_map (with_part (λ _. net_part names w)) (get (sites_of names f) (case_ident n))
        → ((q : Ident) → under q (case_ident n) ≡ false → get m q ≡ get (sites_of names f) q) → (sites_of names (record { cases = with_case n f.cases (record c { net = w }) }) ≡ m) × IsForest (record { cases = with_case n f.cases (record c { net = w }) })
    top_changes m shows own outside = (
      net_changes (case_ident n) (case_site names c) (case_site names renewed) (below c) (below renewed) (entries names f) (entries names (after renewed refl top_boxed)) (placing renewed refl top_boxed).0
          (under_was renewed refl top_boxed) (under_is renewed refl top_boxed) names (below_run names c.run) c.net w refl refl refl refl m shows own outside,
      (placing renewed refl top_boxed).1,
    )

-- ---- all items of a task in the net of a case go
module _ (f : Forest) (b : IsForest f) (n : ℕ) (s w : NetState) (e : top_of f n ≡ Some s) where
  the_case : (c : Case) × (case_at n f.cases ≡ Some c) × (c.net ≡ s)
  the_case = map_some (λ (c : Case). c.net) (case_at n f.cases) s e

  pub its_top : IsBoxedNet s × IsNetAt (case_ident n) s
  its_top =
      let c = map_some (λ (c : Case). c.net) (case_at n f.cases) s e in
      let i = its (λ k. []) f b n c.0 c.1 in
      (subst IsBoxedNet c.2 i.1.net, subst (λ z. IsNetAt z s) i.0 (subst (IsNetAt c.0.id) c.2 (children_front c.0.id (ids c.0.net) (run_ids c.0.run) i.1.here)))

  pub top_cut : IsBoxedNet w → ((i : Ident) (js : List Ident) → AreChildren i (ids s ++ js) → AreChildren i (ids w ++ js)) → (names : ℕ → List ℕ) (js : List Ident) → Each (IsChild (case_ident n)) js
      → ((beside : Entries) → StandsBeside (case_ident n) (ids s) beside → ShowsNet names (sites_of names f) (case_ident n) beside s → ShowsNet names (drop_all (sites_of names f) js) (case_ident n) beside w)
      → (sites_of names (top_replaced f n w) ≡ drop_all (sites_of names f) js) × IsForest (top_replaced f n w)
  top_cut wb fewer names js ch shows =
      let c = map_some (λ (c : Case). c.net) (case_at n f.cases) s e in
      let id = case_ident n in
      let m = sites_of names f in
      let i = its names f b n c.0 c.1 in
      let here : AreChildren id (ids s ++ run_ids c.0.run) = subst (λ z. AreChildren z (ids s ++ run_ids c.0.run)) i.0 (subst (λ z. AreChildren c.0.id (ids z ++ run_ids c.0.run)) c.2 i.1.here) in
      let beside = run_beside names id c.0.run (ids s) i.1.run here in
      let fits = fewer id (run_ids c.0.run) here in
      let was : ShowsNet names m id (below_run names c.0.run) s = subst (ShowsNet names m id (below_run names c.0.run)) c.2 (top_shown names f b n c.0 c.1 w wb fits) in
      let now = shows (below_run names c.0.run) beside was in
      let same_at : get (drop_all m js) id ≡ get m id = get-drop_all m js id ∙ ap (λ z. cond z None (get m id)) (above id js ch) in
      let part : option_and_then (λ (x : Site). x.net) (get m id) ≡ Some (net_part names w) = ap (option_and_then (λ (x : Site). x.net)) (sym same_at) ∙ now.part in
      subst (λ (o : Option Case). (sites_of names (with_top f n w o) ≡ drop_all m js) × IsForest (with_top f n w o)) (sym c.1)
      (top_changes names f b n c.0 c.1 w wb fits (drop_all m js) now (same_at ∙ sym (same_part (net_part names w) (get m id) part))
      (λ q u. get-drop_all m js q ∙ ap (λ z. cond z None (get m q)) (untouched id q js ch u)))
    where
      same_part : (p : NetPart) (o : Option Site) → option_and_then (λ (x : Site). x.net) o ≡ Some p → option_map (with_part (λ _. p)) o ≡ o
      same_part p None h = refl
      same_part p (Some x) h = ap (λ (z : Option NetPart). Some (record x { net = z })) (ap (option_map (λ (_ : NetPart). p)) h ∙ sym h)
