-- The equations of the entries, one level at a time.
use Rattle.std.below.std_alloc.specs.formers.vec.Vec.{mapped}
use Rattle.std.proofs.Common.{List, None, Option, Some, [], ap, append_assoc, map, refl, sym, ℕ, ◌++◌, ◌∙◌, ◌∷◌, ◌≡◌}
use Rattle.std.specs.Prelude.{Box, Vec}
use Rattle.std.specs.declared.alloc.Global.{Global}
use Rattle.yw_sites.specs.Entries.{Entries}
use Rattle.yw_tree.specs.Entries.{NetEntries, below_net, below_of, below_run, flat, item_site, join, join_vecs, net_entries, net_part, net_part_of, net_step, node_entries, node_step, nodes, part_of, row_nodes, run_entries, run_of, run_site, run_step}
use Rattle.yw_tree.specs.declared.NetState.{NetState, fold_out-NetState, out-NetState}
use Rattle.yw_tree.specs.declared.NetState.TheShapes.{former-Node-net, former-Node-run}
use Rattle.yw_tree.specs.declared.Node.{Node, fold_out-Node, out-Node}
use Rattle.yw_tree.specs.declared.Run.{Run, fold_out-Run, out-Run}

module _ (names : ℕ → List ℕ) where
  abbrev ents : Node → Entries
  ents = node_entries names

  join_is : (xs : List Node) → join (map ents xs) ≡ flat ents xs
  join_is [] = refl
  join_is (x ∷ xs) = ap (λ r. ents x ++ r) (join_is xs)

  pub flat-append : (xs ys : List Node) → flat ents (xs ++ ys) ≡ flat ents xs ++ flat ents ys
  flat-append [] ys = refl
  flat-append (x ∷ xs) ys = ap (λ r. ents x ++ r) (flat-append xs ys) ∙ sym (append_assoc (ents x) (flat ents xs) (flat ents ys))

  join_vecs_is : (vs : List (Vec Node Global)) → join_vecs (map (mapped ents) vs) ≡ flat ents (row_nodes vs)
  join_vecs_is [] = refl
  join_vecs_is (v ∷ vs) = (λ i. join_is v.items i ++ join_vecs_is vs i) ∙ sym (flat-append v.items (row_nodes vs))

  pub net_entries_is : (s : NetState) → net_entries names s ≡ (net_part names s, flat ents (nodes s))
  net_entries_is s = fold_out-NetState NetEntries Entries Entries (net_step names) (node_step names) (run_step names) s ∙ ap (λ r. (net_part names s, r)) (join_vecs_is (out-NetState s).items.items)

  part_is : (o : Option (Box NetState Global)) → part_of (former-Node-net.map NetState NetEntries (net_entries names) o) ≡ net_part_of names o
  part_is None = refl
  part_is (Some b) = ap (λ (e : NetEntries). Some e.0) (net_entries_is b.value)

  below_is : (o : Option (Box NetState Global)) → below_of (former-Node-net.map NetState NetEntries (net_entries names) o) ≡ below_net names o
  below_is None = refl
  below_is (Some b) = refl

  run_is : (o : Option (Box Run Global)) → run_of (former-Node-run.map Run Entries (run_entries names) o) ≡ below_run names o
  run_is None = refl
  run_is (Some b) = refl

  pub node_entries_is : (n : Node) → ents n ≡ ((out-Node n).id, item_site names n) ∷ (below_net names (out-Node n).net ++ below_run names (out-Node n).run)
  node_entries_is n = fold_out-Node NetEntries Entries Entries (net_step names) (node_step names) (run_step names) n
      ∙ (λ i. ((out-Node n).id, record (item_site names n) { net = part_is (out-Node n).net i }) ∷ (below_is (out-Node n).net i ++ run_is (out-Node n).run i))

  pub run_entries_is : (r : Run) → run_entries names r ≡ ((out-Run r).id, run_site names r) ∷ below_net names (out-Run r).net
  run_entries_is r = fold_out-Run NetEntries Entries Entries (net_step names) (node_step names) (run_step names) r
      ∙ (λ i. ((out-Run r).id, record (run_site names r) { net = part_is (out-Run r).net i }) ∷ below_is (out-Run r).net i)
