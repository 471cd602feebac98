-- A net put back where it stands changes nothing.
use Rattle.std.proofs.Common.{◌≡◌, Bool, true, false, cond, Option, Some, None, ap, sym, ◌∙◌}
use Rattle.std.specs.Prelude.{is_some}
use Rattle.yw_state.specs.Identity.{Ident, is_case_ident}
use Rattle.yw_base.specs.Identity.{case_number}
use Rattle.yw_state.proofs.Tests.{by_option, by_test, map_some, nowhere}
use Rattle.yw_tree.specs.Cases.{case_at, with_case}
use Rattle.yw_tree.specs.Forest.{item_of, item_replaced, item_net_replaced, item_part_replaced, top_replaced, top_of, with_top}
use Rattle.yw_tree.specs.Places.{net_at, net_of_run, over_run_net, placed_net, placed_run, run_of}
use Rattle.yw_tree.specs.Ways.{net_in, net_of_item, with_net}
use Rattle.yw_tree.specs.declared.Case.{Case}
use Rattle.yw_tree.specs.declared.Forest.{Forest}
use Rattle.yw_tree.specs.declared.NetState.{NetState}
use Rattle.yw_tree.specs.declared.Node.{Node, out-Node, roll-Node, roll-out-Node}
use Rattle.yw_tree.specs.declared.Run.{Run, out-Run, roll-Run, roll-out-Run}
use Rattle.yw_tree.proofs.PutBack.{put_back}
use Rattle.yw_tree.proofs.RunBack.{run_back}
use Rattle.yw_tree.proofs.Same.{same_net}
use Rattle.yw_tree.proofs.SameCase.{same_table}
use Rattle.yw_tree.proofs.TaskCut.{with_its_net}

module _ (f : Forest) (id : Ident) (s : NetState) where
  abbrev rest : Option NetState
  rest = cond (is_some (item_of f id)) (net_of_item (item_of f id)) (net_of_run (run_of f id))

  abbrev rest_placed : Forest
  rest_placed = cond (is_some (item_of f id)) (item_net_replaced f id s) (over_run_net f id s (run_of f id))

  top_back : top_of f (case_number id) ≡ Some s → top_replaced f (case_number id) s ≡ f
  top_back e =
      let c = map_some (λ (c : Case). c.net) (case_at (case_number id) f.cases) s e in
      let kept : ◌≡◌ {A = Case} (record c.0 { net = s }) c.0 = λ j. record c.0 { net = sym c.2 j } in
      ap (with_top f (case_number id) s) c.1 ∙ (λ j. record { cases = with_case (case_number id) f.cases (kept j) }) ∙ (λ j. record { cases = same_table (case_number id) f.cases c.0 c.1 j })

  item_back : net_of_item (item_of f id) ≡ Some s → item_net_replaced f id s ≡ f
  item_back e =
      let n = with_its_net (item_of f id) s e in
      let kept : ◌≡◌ {A = Node} (roll-Node (record (out-Node n.0) { net = with_net (out-Node n.0).net s })) n.0 = (λ j. roll-Node (record (out-Node n.0) { net = same_net (out-Node n.0).net s n.2 j })) ∙ roll-out-Node n.0 in
      ap (item_part_replaced f id s) n.1 ∙ ap (item_replaced f id) kept ∙ put_back id n.0 f n.1

  of_run : (r : Run) → run_of f id ≡ Some r → net_in (out-Run r).net ≡ Some s → over_run_net f id s (run_of f id) ≡ f
  of_run r o e =
      let kept : ◌≡◌ {A = Run} (roll-Run (record (out-Run r) { net = with_net (out-Run r).net s })) r = (λ j. roll-Run (record (out-Run r) { net = same_net (out-Run r).net s e j })) ∙ roll-out-Run r in
      ap (over_run_net f id s) o ∙ ap (placed_run f id) kept ∙ run_back f id r o

  pub net_back : net_at f id ≡ Some s → placed_net f id s ≡ f
  net_back e =
      by_test (is_case_ident id)
      (λ (t : is_case_ident id ≡ true). ap (λ (u : Bool). cond u (top_replaced f (case_number id) s) rest_placed) t ∙ top_back (sym (ap (λ u. cond u (top_of f (case_number id)) rest) t) ∙ e))
      (λ (t : is_case_ident id ≡ false).
      let below : rest ≡ Some s = sym (ap (λ u. cond u (top_of f (case_number id)) rest) t) ∙ e in
      ap (λ (u : Bool). cond u (top_replaced f (case_number id) s) rest_placed) t
      ∙ by_test (is_some (item_of f id))
      (λ (u : is_some (item_of f id) ≡ true).
      ap (λ (v : Bool). cond v (item_net_replaced f id s) (over_run_net f id s (run_of f id))) u ∙ item_back (sym (ap (λ v. cond v (net_of_item (item_of f id)) (net_of_run (run_of f id))) u) ∙ below))
      (λ (u : is_some (item_of f id) ≡ false).
      let g : net_of_run (run_of f id) ≡ Some s = sym (ap (λ v. cond v (net_of_item (item_of f id)) (net_of_run (run_of f id))) u) ∙ below in
      ap (λ (v : Bool). cond v (item_net_replaced f id s) (over_run_net f id s (run_of f id))) u
      ∙ by_option (run_of f id)
      (λ (o : run_of f id ≡ None). nowhere (sym (ap net_of_run o) ∙ g))
      (λ (r : Run) (o : run_of f id ≡ Some r). of_run r o (sym (ap net_of_run o) ∙ g))))
