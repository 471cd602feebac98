-- A run goes from its case or its item.
use Rattle.std.proofs.Common.{◌≡◌, ◌≤◌, ℕ, false, length, Some, None, List, [], ◌++◌, subst, sym}
use Rattle.yw_sites.specs.Entries.{AllUnder}
use Rattle.yw_sites.specs.Idents.{AreChildren}
use Rattle.yw_sites.proofs.Children.{children_front}
use Rattle.yw_sites.proofs.Each.{nil_right}
use Rattle.yw_sites.proofs.Parts.{drop_law}
use Rattle.yw_state.specs.Identity.{Ident, is_case_ident}
use Rattle.yw_base.specs.Identity.{case_number, parent}
use Rattle.yw_state.specs.State.{drop}
use Rattle.yw_tree.specs.Boxed.{AtNet, AtNode, AtRun, ids, net_ids, run_ids}
use Rattle.yw_tree.specs.Cases.{case_at}
use Rattle.yw_tree.specs.Entries.{run_entries}
use Rattle.yw_tree.specs.Forest.{IsForest, entries, item_of, item_replaced, sites_of}
use Rattle.yw_tree.specs.Places.{placed_case, run_at, run_of}
use Rattle.yw_tree.specs.declared.Case.{Case}
use Rattle.yw_tree.specs.declared.Forest.{Forest}
use Rattle.yw_tree.specs.declared.Node.{Node, out-Node, roll-Node, every_here-Node}
use Rattle.yw_tree.specs.declared.Run.{Run}
use Rattle.yw_tree.proofs.CaseLaw.{its}
use Rattle.yw_tree.proofs.ForestLaw.{in_case, item_found}
use Rattle.yw_tree.proofs.Keys.{run_keys}
use Rattle.yw_tree.proofs.Parents.{parent_there}
use Rattle.yw_tree.proofs.RunLaw.{case_host, item_host, run_found}

module _ (names : ℕ → List ℕ) (f : Forest) (b : IsForest f) (id : Ident) (r : Run) (e : run_of f id ≡ Some r) where
  keys : AllUnder id (run_entries names r)
  keys = let g = run_found f id r b e in subst (λ z. AllUnder z (run_entries names r)) g.0 (run_keys names r g.1)

  pub run_cut_from_case : (c : Case) → case_at (case_number id) f.cases ≡ Some c → run_at id c.run ≡ Some r
      → (sites_of names (placed_case f (case_number id) (record c { run = None })) ≡ drop (sites_of names f) id) × IsForest (placed_case f (case_number id) (record c { run = None }))
  run_cut_from_case c at h =
      let i = its names f b (case_number id) c at in
      let alone : AreChildren c.id (ids c.net ++ []) = subst (AreChildren c.id) (sym (nil_right (ids c.net))) (children_front c.id (ids c.net) (run_ids c.run) i.1.here) in
      let p = case_host names f b id r None tt (case_number id) c at h alone in
      (drop_law id (run_entries names r) (entries names f) (entries names (placed_case f (case_number id) (record c { run = None }))) p.0 keys, p.1)

  pub run_cut_from_item : 1 ≤ length id → is_case_ident id ≡ false → (n : Node) → item_of f (parent id) ≡ Some n → run_at id (out-Node n).run ≡ Some r
      → (sites_of names (item_replaced f (parent id) (roll-Node (record (out-Node n) { run = None }))) ≡ drop (sites_of names f) id) × IsForest (item_replaced f (parent id) (roll-Node (record (out-Node n) { run = None })))
  run_cut_from_item long t n at h =
      let l = out-Node n in
      let g = item_found f (parent id) n b at in
      let children : AreChildren l.id (net_ids l.net ++ run_ids l.run) = every_here-Node AtNet AtNode AtRun n g.1 in
      let alone : AreChildren (parent id) (net_ids l.net ++ []) = subst (AreChildren (parent id)) (sym (nil_right (net_ids l.net))) (subst (λ z. AreChildren z (net_ids l.net)) g.0 (children_front l.id (net_ids l.net) (run_ids l.run) children)) in
      let p = item_host names f b id r None tt (parent id) (in_case (parent id) (parent_there id long t)) n at h alone in
      (drop_law id (run_entries names r) (entries names f) (entries names (item_replaced f (parent id) (roll-Node (record (out-Node n) { run = None })))) p.0 keys, p.1)
