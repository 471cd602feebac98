-- The net that is found at an identity stands there.
use Rattle.std.proofs.Common.{◌≡◌, ◌≤◌, Bool, true, false, cond, refl, length, Option, Some, None, [], ◌∷◌, ap, subst, sym, ◌∙◌, arith}
use Rattle.std.specs.Prelude.{is_some}
use Rattle.std.proofs.lemmas.Bool.{eqb-true}
use Rattle.yw_state.specs.Identity.{Ident, case_ident, is_case_ident}
use Rattle.yw_base.specs.Identity.{case_number}
use Rattle.yw_state.proofs.Tests.{by_option, by_test, map_some, nowhere}
use Rattle.yw_tree.specs.Cases.{case_at}
use Rattle.yw_tree.specs.Forest.{IsForest, item_of, item_net_replaced, top_replaced, top_of, with_top}
use Rattle.yw_tree.specs.Places.{net_at, net_of_run, over_run_net, placed_net, run_of}
use Rattle.yw_tree.specs.Ways.{net_of_item}
use Rattle.yw_tree.specs.declared.Case.{Case}
use Rattle.yw_tree.specs.declared.Forest.{Forest}
use Rattle.yw_tree.specs.declared.NetState.{NetState}
use Rattle.yw_tree.specs.declared.Run.{Run}
use Rattle.yw_tree.proofs.ForestLaw.{in_case}
use Rattle.yw_tree.proofs.NetHere.{NetHere, item_net_here, run_net_here, top_here}
use Rattle.yw_tree.proofs.Table.{case_put}
use Rattle.yw_tree.proofs.TaskCut.{with_its_net}

pub case_ident_is : (id : Ident) → is_case_ident id ≡ true → case_ident (case_number id) ≡ id
case_ident_is id h = alone id (eqb-true (length id) 1 h)
  where
    alone : (id : Ident) → length id ≡ 1 → case_ident (case_number id) ≡ id
    alone [] e = absurd (omega arith)
    alone (x ∷ []) e = refl
    alone (x ∷ y ∷ ys) e = absurd (omega arith)

module _ (f : Forest) (id : Ident) where
  abbrev rest : Option NetState
  rest = cond (is_some (item_of f id)) (net_of_item (item_of f id)) (net_of_run (run_of f id))

  abbrev rest_placed : NetState → Forest
  rest_placed w = cond (is_some (item_of f id)) (item_net_replaced f id w) (over_run_net f id w (run_of f id))

  pub net_here : (s : NetState) → IsForest f → 1 ≤ length id → net_at f id ≡ Some s → NetHere f id s (placed_net f id)
  net_here s b long e =
      by_test (is_case_ident id)
      (λ (t : is_case_ident id ≡ true).
      let top : top_of f (case_number id) ≡ Some s = sym (ap (λ u. cond u (top_of f (case_number id)) rest) t) ∙ e in
      let same : ◌≡◌ {A = NetState → Forest} (top_replaced f (case_number id)) (placed_net f id) = λ j w. (sym (ap (λ (u : Bool). cond u (top_replaced f (case_number id) w) (rest_placed w)) t)) j in
      subst (NetHere f id s) same (subst (λ z. NetHere f z s (top_replaced f (case_number id))) (case_ident_is id t) (top_here f (case_number id) s b top)))
      (λ (t : is_case_ident id ≡ false).
      let below : rest ≡ Some s = sym (ap (λ u. cond u (top_of f (case_number id)) rest) t) ∙ e in
      let same : ◌≡◌ {A = NetState → Forest} rest_placed (placed_net f id) = λ j w. (sym (ap (λ (u : Bool). cond u (top_replaced f (case_number id) w) (rest_placed w)) t)) j in
      subst (NetHere f id s) same
      (by_test (is_some (item_of f id))
      (λ (u : is_some (item_of f id) ≡ true).
      let g : net_of_item (item_of f id) ≡ Some s = sym (ap (λ v. cond v (net_of_item (item_of f id)) (net_of_run (run_of f id))) u) ∙ below in
      let n = with_its_net (item_of f id) s g in
      let there : ◌≡◌ {A = NetState → Forest} (item_net_replaced f id) rest_placed = λ j w. (sym (ap (λ (v : Bool). cond v (item_net_replaced f id w) (over_run_net f id w (run_of f id))) u)) j in
      subst (NetHere f id s) there (item_net_here f id n.0 s b (in_case id long) n.1 n.2))
      (λ (u : is_some (item_of f id) ≡ false).
      let g : net_of_run (run_of f id) ≡ Some s = sym (ap (λ v. cond v (net_of_item (item_of f id)) (net_of_run (run_of f id))) u) ∙ below in
      let there : ◌≡◌ {A = NetState → Forest} (λ w. over_run_net f id w (run_of f id)) rest_placed = λ j w. (sym (ap (λ (v : Bool). cond v (item_net_replaced f id w) (over_run_net f id w (run_of f id))) u)) j in
      subst (NetHere f id s) there
      (by_option (run_of f id)
      (λ (o : run_of f id ≡ None). nowhere (sym (ap net_of_run o) ∙ g))
      (λ (r : Run) (o : run_of f id ≡ Some r). run_net_here f id long r s b o (sym (ap net_of_run o) ∙ g))))))

  -- where another net is put at a case's identity, the case stands
  pub case_placed : (s w : NetState) → is_case_ident id ≡ true → net_at f id ≡ Some s → (c : Case) × (case_at (case_number id) (placed_net f id w).cases ≡ Some c)
  case_placed s w t e =
      let n = case_number id in
      let top : top_of f n ≡ Some s = sym (ap (λ u. cond u (top_of f n) rest) t) ∙ e in
      let c = map_some (λ (c : Case). c.net) (case_at n f.cases) s top in
      let d : Case = record c.0 { net = w } in
      (d, ap (λ (u : Bool). case_at n (cond u (top_replaced f n w) (rest_placed w)).cases) t ∙ ap (λ (o : Option Case). case_at n (with_top f n w o).cases) c.1 ∙ case_put n f.cases c.0 d c.1)
