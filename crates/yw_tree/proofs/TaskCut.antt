-- All items of a task in the net of an item go.
use Rattle.std.proofs.Common.{List, None, Option, Some, [], ap, cond, false, map, refl, subst, sym, true, ℕ, ◌++◌, ◌∙◌, ◌∷◌, ◌≡◌}
use Rattle.std.specs.Prelude.{Box, option_and_then, option_map}
use Rattle.std.specs.declared.alloc.Global.{Global}
use Rattle.yw_sites.proofs.Dropped.{above, get-drop_all, untouched}
use Rattle.yw_sites.proofs.Picked.{none_step, pick, picked, same_filter, some_step}
use Rattle.yw_sites.proofs.Prefix.{child_of}
use Rattle.yw_sites.specs.Idents.{AreChildren, Each, IsChild}
use Rattle.yw_state.proofs.Tests.{by_option, by_test, nowhere, some_same}
use Rattle.yw_state.specs.After.{with_net as with_part}
use Rattle.yw_state.specs.Identity.{Ident, is_child}
use Rattle.yw_state.specs.Map.{entries, get}
use Rattle.yw_state.specs.State.{ItemPart, NetPart, Site, State, drop_all, item_of_task, items_of}
use Rattle.yw_tree.proofs.Beside.{run_beside}
use Rattle.yw_tree.proofs.ForestLaw.{InCase, item_found}
use Rattle.yw_tree.proofs.Found.{boxed_in}
use Rattle.yw_tree.proofs.Induct.{below_every_node}
use Rattle.yw_tree.proofs.NetLaw.{net_lifted, shown}
use Rattle.yw_tree.proofs.Rows.{if_task, item_if, picks}
use Rattle.yw_tree.specs.Boxed.{AtNet, AtNode, AtRun, IsBoxedNet, ids, net_ids, run_ids}
use Rattle.yw_tree.specs.Entries.{below_run, net_part}
use Rattle.yw_tree.specs.Forest.{IsForest, item_of, item_net_replaced, item_part_replaced, sites_of}
use Rattle.yw_tree.specs.Shows.{ShowsNet, StandsBeside}
use Rattle.yw_tree.specs.Ways.{net_in, net_of_item}
use Rattle.yw_tree.specs.declared.Forest.{Forest}
use Rattle.yw_tree.specs.declared.NetState.{NetState}
use Rattle.yw_tree.specs.declared.Node.{Node, every_here-Node, out-Node}

module _ (f : Forest) (id : Ident) (old : Node) (s w : NetState) (b : IsForest f) (within : InCase id) (e : item_of f id ≡ Some old) (at : net_in (out-Node old).net ≡ Some s) where
  children : AreChildren id (net_ids (out-Node old).net ++ run_ids (out-Node old).run)
  children = let g = item_found f id old b e in subst (λ z. AreChildren z (net_ids (out-Node old).net ++ run_ids (out-Node old).run)) g.0 (every_here-Node AtNet AtNode AtRun old g.1)

  pub its_children : AreChildren id (ids s ++ run_ids (out-Node old).run)
  its_children = subst (λ z. AreChildren id (z ++ run_ids (out-Node old).run)) (are (out-Node old).net at) children
    where
      are : (o : Option (Box NetState Global)) → net_in o ≡ Some s → net_ids o ≡ ids s
      are None h = nowhere h
      are (Some x) h = ap ids (some_same x.value s h)

  pub its_net : IsBoxedNet s
  its_net = let g = item_found f id old b e in boxed_in (out-Node old).net s (below_every_node AtNet AtNode AtRun old g.1).0 at

  pub its_run : StandsBeside id (ids s) (below_run (λ (n : ℕ). []) (out-Node old).run)
  its_run = let g = item_found f id old b e in run_beside (λ n. []) id (out-Node old).run (ids s) (below_every_node AtNet AtNode AtRun old g.1).1 its_children

  -- a net that shows what the restriction leaves is the one of the forest that means it
  pub task_cut : IsBoxedNet w → ((i : Ident) (js : List Ident) → AreChildren i (ids s ++ js) → AreChildren i (ids w ++ js)) → (names : ℕ → List ℕ) (js : List Ident) → Each (IsChild id) js
      → (StandsBeside id (ids s) (below_run names (out-Node old).run) → ShowsNet names (sites_of names f) id (below_run names (out-Node old).run) s → ShowsNet names (drop_all (sites_of names f) js) id (below_run names (out-Node old).run) w)
      → (sites_of names (item_net_replaced f id w) ≡ drop_all (sites_of names f) js) × IsForest (item_net_replaced f id w)
  task_cut wb fewer names js c shows =
      let g = item_found f id old b e in
      let m = sites_of names f in
      let beside = run_beside names id (out-Node old).run (ids s) (below_every_node AtNet AtNode AtRun old g.1).1 its_children in
      let was = shown names f id old b within e s at in
      let now = shows beside was in
      let same_at : get (drop_all m js) id ≡ get m id = get-drop_all m js id ∙ ap (λ z. cond z None (get m id)) (above id js c) in
      let part : option_and_then (λ (x : Site). x.net) (get m id) ≡ Some (net_part names w) = ap (option_and_then (λ (x : Site). x.net)) (sym same_at) ∙ now.part in
      subst (λ (o : Option Node). (sites_of names (item_part_replaced f id w o) ≡ drop_all m js) × IsForest (item_part_replaced f id w o)) (sym e)
      (net_lifted names f id old b within e s w at wb (fewer id (run_ids (out-Node old).run) its_children) (drop_all m js) now
      (same_at ∙ sym (same_part (get m id) part))
      (λ q u. get-drop_all m js q ∙ ap (λ z. cond z None (get m q)) (untouched id q js c u)))
    where
      same_part : (o : Option Site) → option_and_then (λ (x : Site). x.net) o ≡ Some (net_part names w) → option_map (with_part (λ _. net_part names w)) o ≡ o
      same_part None h = refl
      same_part (Some x) h = ap (λ (z : Option NetPart). Some (record x { net = z })) (ap (option_map (λ (_ : NetPart). net_part names w)) h ∙ sym h)

-- ---- the items that the definitions list stand directly under the net's identity
each_picked : (i : Ident) (k : ℕ) (es : List (Ident × Site)) → Each (IsChild i) (map (λ e. e.0) (picked (item_if i k) es))
each_picked i k [] = tt
each_picked i k (x ∷ es) =
    by_option (item_if i k x.0 x.1)
    (λ (n : item_if i k x.0 x.1 ≡ None). subst (λ z. Each (IsChild i) (map (λ e. e.0) z)) (sym (none_step (item_if i k) x es n)) (each_picked i k es))
    (λ (y : ItemPart) (n : item_if i k x.0 x.1 ≡ Some y). subst (λ z. Each (IsChild i) (map (λ e. e.0) z)) (sym (some_step (item_if i k) x es y n)) (is_one y n, each_picked i k es))
  where
    is_one : (y : ItemPart) → item_if i k x.0 x.1 ≡ Some y → IsChild i x.0
    is_one y n =
        by_test (is_child x.0 i)
        (λ (t : is_child x.0 i ≡ true). child_of x.0 i t)
        (λ (t : is_child x.0 i ≡ false). nowhere (sym (ap (λ z. cond z (option_and_then (if_task k) x.1.item) None) t) ∙ n))

pub items_children : (s : State) (i : Ident) (k : ℕ) → Each (IsChild i) (map (λ e. e.0) (items_of s i k))
items_children s i k = subst (λ z. Each (IsChild i) (map (λ e. e.0) z)) (sym (same_filter (λ e. item_of_task i k e.0 e.1) (pick (item_if i k)) (picks i k) (entries s.sites))) (each_picked i k (entries s.sites))

pub with_its_net : (o : Option Node) (s : NetState) → net_of_item o ≡ Some s → (n : Node) × (o ≡ Some n) × (net_in (out-Node n).net ≡ Some s)
with_its_net None s e = nowhere e
with_its_net (Some n) s e = (n, refl, e)
