-- An item in place of another, as a part of the forest.
use Rattle.std.proofs.Common.{List, None, Option, Some, ap, cond, false, refl, subst, sym, ℕ, ◌++◌, ◌∙◌, ◌∷◌, ◌≡◌}
use Rattle.std.specs.FinMap.Entries.{find}
use Rattle.std.specs.Ordering.{eq_by_cmp}
use Rattle.std.specs.Prelude.{Box, option_map}
use Rattle.std.specs.declared.alloc.Global.{Global}
use Rattle.yw_base.specs.Identity.{under}
use Rattle.yw_sites.proofs.Parts.{is_bared, own_changes}
use Rattle.yw_tree.proofs.PartNet.{net_changes, net_shown}
use Rattle.yw_sites.specs.Entries.{Entries, AllUnder, Swaps}
use Rattle.yw_sites.specs.Idents.{AreChildren}
use Rattle.yw_state.proofs.MapLemmas.{by_name, tied_self}
use Rattle.yw_state.proofs.Tests.{nowhere, some_same}
use Rattle.yw_state.specs.After.{with_net as with_part}
use Rattle.yw_state.specs.Identity.{Ident}
use Rattle.yw_state.specs.Map.{get, lexical, update}
use Rattle.yw_state.specs.State.{Site, Sites, bare}
use Rattle.yw_tree.proofs.Equations.{node_entries_is}
use Rattle.yw_tree.proofs.ForestLaw.{InCase, forest_law, item_found}
use Rattle.yw_tree.proofs.Induct.{below_every_node}
use Rattle.yw_tree.proofs.Keys.{node_keys}
use Rattle.yw_tree.proofs.Made.{made_node}
use Rattle.yw_tree.specs.Boxed.{AtNet, AtNode, AtRun, Held, IsBoxedNet, IsBoxedNode, head, ids, net_ids, run_ids}
use Rattle.yw_tree.specs.Entries.{below_net, below_run, item_site, net_entries, net_part, net_part_of, node_entries}
use Rattle.yw_tree.specs.Forest.{IsForest, entries, item_of, item_replaced, sites_of}
use Rattle.yw_tree.specs.Shows.{ShowsNet}
use Rattle.yw_tree.specs.Ways.{net_in, renewed, with_net}
use Rattle.yw_tree.specs.declared.Forest.{Forest}
use Rattle.yw_tree.specs.declared.NetState.{NetState}
use Rattle.yw_tree.specs.declared.Node.{Node, Node-F, out-Node, out-roll-Node, roll-Node, roll-out-Node}
use Rattle.yw_tree.specs.declared.Run.{Run}

abbrev Level : Type 0
Level = Node-F NetState Node Run

module _ (names : ℕ → List ℕ) where
  abbrev pub below : Node → Entries
  below n = below_net names (out-Node n).net ++ below_run names (out-Node n).run

  -- an item's own entry
  pub at_own : (q : Ident) (n : Node) → q ≡ (out-Node n).id → find lexical q (node_entries names n) ≡ Some (item_site names n)
  at_own q n e = ap (find lexical q) (node_entries_is names n) ∙ ap (λ b. cond b (Some (item_site names n)) (find lexical q (below n))) (ap (λ z. eq_by_cmp lexical z (out-Node n).id) e ∙ tied_self by_name (out-Node n).id)

  -- an item, one level open
  abbrev pub site_open : Level → Site
  site_open l = record { net = net_part_of names l.net; item = Some (record { task = l.task; stage = l.stage; given = l.given; made = l.made; who = l.who }); run = None; suspended = l.suspended; due = l.due }

  module _ (f : Forest) (id : Ident) (old : Node) (b : IsForest f) (within : InCase id) (e : item_of f id ≡ Some old) where
    own_id : (out-Node old).id ≡ id
    own_id = (item_found f id old b e).0

    -- ---- another item in its place
    module _ (w : Node) (same_head : head w ≡ head old) (wb : IsBoxedNode w) where
      pub placing : Swaps id ((id, item_site names old) ∷ below old) ((id, item_site names w) ∷ below w) (entries names f) (entries names (item_replaced f id w)) × IsForest (item_replaced f id w)
      placing =
          let p = forest_law names id w old same_head wb f b within e in
          let first : node_entries names old ≡ (id, item_site names old) ∷ below old = node_entries_is names old ∙ ap (λ z. (z, item_site names old) ∷ below old) own_id in
          let second : node_entries names w ≡ (id, item_site names w) ∷ below w = node_entries_is names w ∙ ap (λ z. (z, item_site names w) ∷ below w) (ap (λ z. z.0) same_head ∙ own_id) in (
            subst (λ z. Swaps id z ((id, item_site names w) ∷ below w) (entries names f) (entries names (item_replaced f id w))) first
                (subst (λ z. Swaps id (node_entries names old) z (entries names f) (entries names (item_replaced f id w))) second p.0),
            p.1,
          )

      pub below_under : (n : Node) → IsBoxedNode n → (out-Node n).id ≡ id → AllUnder id (below n)
      below_under n nb same = subst (λ z. AllUnder z (below n)) same (subst (AllUnder (out-Node n).id) (node_entries_is names n) (node_keys names n nb)).1

      pub under_was : AllUnder id (below old)
      under_was = below_under old (item_found f id old b e).1 own_id

      pub under_is : AllUnder id (below w)
      under_is = below_under w wb (ap (λ z. z.0) same_head ∙ own_id)

      pub item_own : (h : Site → Site) → below w ≡ below old → item_site names w ≡ h (item_site names old) → sites_of names (item_replaced f id w) ≡ update (sites_of names f) id h
      item_own h rest own = own_changes id (item_site names old) (item_site names w) (below old) (below w) (entries names f) (entries names (item_replaced f id w)) placing.0 under_was under_is h rest own

    -- ---- another net at the item
    module _ (s w : NetState) (at : net_in (out-Node old).net ≡ Some s) (wb : IsBoxedNet w) (fits : AreChildren id (ids w ++ run_ids (out-Node old).run)) where
      held : (o : Option (Box NetState Global)) → net_in o ≡ Some s → (net_part_of names (with_net o w) ≡ Some (net_part names w)) × (below_net names (with_net o w) ≡ (net_entries names w).1) × Held IsBoxedNet (with_net o w) × (net_ids (with_net o w) ≡ ids w)
          × (net_part_of names o ≡ Some (net_part names s)) × (below_net names o ≡ (net_entries names s).1)
      held None h = nowhere h
      held (Some x) h = let k = some_same x.value s h in (refl, refl, wb, refl, ap (λ (z : NetState). Some (net_part names z)) k, ap (λ (z : NetState). (net_entries names z).1) k)

      abbrev level : Level
      level = record (out-Node old) { net = with_net (out-Node old).net w }

      renewed_boxed : IsBoxedNode (renewed old w)
      renewed_boxed =
          let g = item_found f id old b e in
          let h = held (out-Node old).net at in
          let l : Level = level in
          made_node AtNet AtNode AtRun l (subst (λ z. AreChildren z (net_ids l.net ++ run_ids l.run)) (sym g.0) (subst (λ z. AreChildren id (z ++ run_ids l.run)) (sym h.3) fits)) h.2 (below_every_node AtNet AtNode AtRun old g.1).1

      renewed_head : head (renewed old w) ≡ head old
      renewed_head = ap (λ (z : Level). (z.id, z.task)) (out-roll-Node level)

      renewed_site : item_site names (renewed old w) ≡ record (item_site names old) { net = Some (net_part names w) }
      renewed_site = ap site_open (out-roll-Node level) ∙ (λ j. record (item_site names old) { net = (held (out-Node old).net at).0 j })

      renewed_below : below (renewed old w) ≡ (net_entries names w).1 ++ below_run names (out-Node old).run
      renewed_below = ap (λ (z : Level). below_net names z.net ++ below_run names z.run) (out-roll-Node level) ∙ ap (λ z. z ++ below_run names (out-Node old).run) (held (out-Node old).net at).1

      was_below : below old ≡ (net_entries names s).1 ++ below_run names (out-Node old).run
      was_below = ap (λ z. z ++ below_run names (out-Node old).run) (held (out-Node old).net at).5

      -- A map that shows the new net, has at the item what was there with that net, and elsewhere what was, is the one of the forest with it.
      pub net_lifted : (m : Sites) → ShowsNet names m id (below_run names (out-Node old).run) w → get m id ≡ option_map (with_part (λ _. net_part names w)) (get (sites_of names f) id)
          → ((q : Ident) → under q id ≡ false → get m q ≡ get (sites_of names f) q) → (sites_of names (item_replaced f id (renewed old w)) ≡ m) × IsForest (item_replaced f id (renewed old w))
      net_lifted m shows own outside = (
        net_changes id (item_site names old) (item_site names (renewed old w)) (below old) (below (renewed old w)) (entries names f) (entries names (item_replaced f id (renewed old w)))
            (placing (renewed old w) renewed_head renewed_boxed).0 (under_was (renewed old w) renewed_head renewed_boxed) (under_is (renewed old w) renewed_head renewed_boxed)
            names (below_run names (out-Node old).run) s w was_below renewed_below (held (out-Node old).net at).4 renewed_site m shows own outside,
        (placing (renewed old w) renewed_head renewed_boxed).1,
      )

    -- the forest shows the net
    pub shown : (s : NetState) → net_in (out-Node old).net ≡ Some s → ShowsNet names (sites_of names f) id (below_run names (out-Node old).run) s
    shown s at =
        let g = item_found f id old b e in
        let h = is (out-Node old).net at in
        net_shown id (item_site names old) (item_site names old) (below old) (below old) (entries names f) (entries names (item_replaced f id old)) (placing old refl g.1).0 (under_was old refl g.1) (under_is old refl g.1)
        names (below_run names (out-Node old).run) s s (ap (λ z. z ++ below_run names (out-Node old).run) h.1) (ap (λ z. z ++ below_run names (out-Node old).run) h.1) h.0 (λ j. record (item_site names old) { net = h.0 j })
      where
        is : (o : Option (Box NetState Global)) → net_in o ≡ Some s → (net_part_of names o ≡ Some (net_part names s)) × (below_net names o ≡ (net_entries names s).1)
        is None h = nowhere h
        is (Some x) h = let k = some_same x.value s h in (ap (λ (z : NetState). Some (net_part names z)) k, ap (λ (z : NetState). (net_entries names z).1) k)

    -- ---- the net and the run of an item go
    module _ (w : Node) (is : out-Node w ≡ record (out-Node old) { net = None; run = None }) where
      bared_boxed : IsBoxedNode w
      bared_boxed =
          let l : Level = record (out-Node old) { net = None; run = None } in
          subst IsBoxedNode (sym (ap roll-Node is) ∙ roll-out-Node w) (made_node AtNet AtNode AtRun l (tt, tt) tt tt)

      bared_head : head w ≡ head old
      bared_head = ap (λ (z : Level). (z.id, z.task)) is

      pub bared : (sites_of names (item_replaced f id w) ≡ bare (sites_of names f) id) × IsForest (item_replaced f id w)
      bared = (
        is_bared id (item_site names old) (item_site names w) (below old) (below w) (entries names f) (entries names (item_replaced f id w)) (placing w bared_head bared_boxed).0 (under_was w bared_head bared_boxed) (under_is w bared_head bared_boxed)
            (ap (λ (z : Level). below_net names z.net ++ below_run names z.run) is) (ap site_open is),
        (placing w bared_head bared_boxed).1,
      )
