-- The net of an item or of a run goes, and it stays.
use Rattle.std.proofs.Common.{List, None, Some, [], ap, false, length, subst, sym, ℕ, ◌++◌, ◌∙◌, ◌∷◌, ◌≡◌, ◌≤◌}
use Rattle.std.specs.FinMap.Entries.{find}
use Rattle.std.specs.Prelude.{Box, IsTrue}
use Rattle.std.specs.declared.alloc.Global.{Global}
use Rattle.yw_sites.proofs.Children.{distinct_back}
use Rattle.yw_sites.proofs.Each.{Each-back}
use Rattle.yw_sites.proofs.Parts.{is_bared, is_bared_but}
use Rattle.yw_sites.proofs.Prefix.{child_strictly, is_child_of, under_refl}
use Rattle.yw_sites.proofs.Swaps.{at_apart}
use Rattle.yw_sites.specs.Entries.{Entries}
use Rattle.yw_sites.specs.Idents.{AreChildren, IsChild}
use Rattle.yw_state.specs.Identity.{Ident, strictly_under}
use Rattle.yw_state.specs.Map.{lexical}
use Rattle.yw_state.specs.State.{Site, bare, bare_but, no_checks}
use Rattle.yw_tree.proofs.Asked.{held_off}
use Rattle.yw_tree.proofs.Equations.{run_entries_is}
use Rattle.yw_tree.proofs.ForestLaw.{InCase, item_found}
use Rattle.yw_tree.proofs.Induct.{below_every_node}
use Rattle.yw_tree.proofs.Made.{made_node, made_run}
use Rattle.yw_tree.proofs.NetLaw.{placing, site_open, under_is, under_was}
use Rattle.yw_tree.proofs.RunLaw.{opened}
use Rattle.yw_tree.specs.Boxed.{AtNet, AtNode, AtRun, Held, IsBoxedNet, IsBoxedNode, IsBoxedRun, head, net_ids, run_ids}
use Rattle.yw_tree.specs.Entries.{below_net, below_run, item_site, net_part_of, run_site}
use Rattle.yw_tree.specs.Forest.{IsForest, entries, item_of, item_replaced, sites_of}
use Rattle.yw_tree.specs.Places.{placed_run, run_of}
use Rattle.yw_tree.specs.declared.Forest.{Forest}
use Rattle.yw_tree.specs.declared.NetState.{NetState}
use Rattle.yw_tree.specs.declared.Node.{Node, Node-F, every_here-Node, out-Node, roll-Node, roll-out-Node}
use Rattle.yw_tree.specs.declared.Run.{Run, Run-F, out-Run, roll-Run, roll-out-Run}

abbrev Level : Type 0
Level = Node-F NetState Node Run

abbrev RunLevel : Type 0
RunLevel = Run-F NetState Node Run

-- ---- a run
module _ (f : Forest) (b : IsForest f) (id : Ident) (long : 1 ≤ length id) (r w : Run) (e : run_of f id ≡ Some r) (is : out-Run w ≡ record (out-Run r) { net = None }) where
  run_boxed : IsBoxedRun w
  run_boxed =
      let l : RunLevel = record (out-Run r) { net = None } in
      let nothing : AreChildren l.id [] = (tt, tt) in
      subst IsBoxedRun (sym (ap roll-Run is) ∙ roll-out-Run w) (made_run AtNet AtNode AtRun l nothing tt)

  same_id : (out-Run w).id ≡ (out-Run r).id
  same_id = ap (λ (z : RunLevel). z.id) is

  abbrev run_open : (ℕ → List ℕ) → RunLevel → Site
  run_open names l = record { net = net_part_of names l.net; item = None; run = Some (record { rest = l.rest; waiting = l.waiting }); suspended = false; due = no_checks }

  pub run_bared : (names : ℕ → List ℕ) → (sites_of names (placed_run f id w) ≡ bare (sites_of names f) id) × IsForest (placed_run f id w)
  run_bared names =
      let p = opened names f b id long r w e same_id run_boxed in (
        is_bared id (run_site names r) (run_site names w) (below_net names (out-Run r).net) (below_net names (out-Run w).net) (entries names f) (entries names (placed_run f id w)) p.0 p.1 p.2
            (ap (λ (z : RunLevel). below_net names z.net) is) (ap (run_open names) is),
        p.3,
      )

-- ---- an item, but for its run
module _ (f : Forest) (b : IsForest f) (id : Ident) (within : InCase id) (old w : Node) (e : item_of f id ≡ Some old) (is : out-Node w ≡ record (out-Node old) { net = None })
    (y : Box Run Global) (hung : (out-Node old).run ≡ Some y) (alone : (out-Run y.value).net ≡ None) where
  down : Held IsBoxedNet (out-Node old).net × Held IsBoxedRun (out-Node old).run
  down = below_every_node AtNet AtNode AtRun old (item_found f id old b e).1

  children : AreChildren (out-Node old).id (net_ids (out-Node old).net ++ run_ids (out-Node old).run)
  children = every_here-Node AtNet AtNode AtRun old (item_found f id old b e).1

  w_boxed : IsBoxedNode w
  w_boxed =
      let o = out-Node old in
      let l : Level = record (out-Node old) { net = None } in
      let here : AreChildren o.id (run_ids o.run) = (Each-back (IsChild o.id) (net_ids o.net) (run_ids o.run) children.0, distinct_back (net_ids o.net) (run_ids o.run) children.1) in
      subst IsBoxedNode (sym (ap roll-Node is) ∙ roll-out-Node w) (made_node AtNet AtNode AtRun l here tt down.1)

  w_head : head w ≡ head old
  w_head = ap (λ (z : Level). (z.id, z.task)) is

  pub bared_but : (names : ℕ → List ℕ) → (sites_of names (item_replaced f id w) ≡ bare_but (sites_of names f) id (out-Run y.value).id) × IsForest (item_replaced f id w)
  bared_but names =
      let o = out-Node old in
      let r = (out-Run y.value).id in
      let one : Entries = (r, run_site names y.value) ∷ [] in
      let g = item_found f id old b e in
      let p = placing names f id old b within e w w_head w_boxed in
      let here : AreChildren o.id (net_ids o.net ++ (r ∷ [])) = subst (λ z. AreChildren o.id (net_ids o.net ++ run_ids z)) hung children in
      let child : IsChild o.id r = (Each-back (IsChild o.id) (net_ids o.net) (r ∷ []) here.0).0 in
      let strict : IsTrue (strictly_under r id) = child_strictly r id (is_child_of r id (subst (λ z. IsChild z r) g.0 child)) in
      let its : below_run names o.run ≡ one = ap (below_run names) hung ∙ run_entries_is names y.value ∙ ap (λ z. (r, run_site names y.value) ∷ below_net names z) alone in
      let none : find lexical r (below_net names o.net) ≡ None = at_apart r r (below_net names o.net) (held_off names o.id o.net down.0 r child here) (under_refl r) in (
        is_bared_but id (item_site names old) (item_site names w) (below_net names o.net ++ below_run names o.run) (below_net names (out-Node w).net ++ below_run names (out-Node w).run) (entries names f) (entries names (item_replaced f id w))
            p.0 (under_was names f id old b within e w w_head w_boxed) (under_is names f id old b within e w w_head w_boxed)
            r (run_site names y.value) (below_net names o.net) strict (ap (λ z. below_net names o.net ++ z) its) none
            (ap (λ (z : Level). below_net names z.net ++ below_run names z.run) is ∙ its) (ap (site_open names) is),
        p.1,
      )
