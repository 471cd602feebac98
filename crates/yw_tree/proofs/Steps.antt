-- One step of the way down.
use Rattle.std.proofs.Common.{Bool, None, Option, Some, ap, cond, false, refl, suc, true, ℕ, ◌∙◌, ◌≡◌}
use Rattle.std.specs.Prelude.{option_and_then}
use Rattle.yw_state.specs.Identity.{Ident, same}
use Rattle.yw_tree.specs.Forest.{levels}
use Rattle.yw_tree.specs.Ways.{inner_of, item_at_place, item_below, item_in, node_at, over_at, over_inner, over_node, over_place, place_of, placed_in, with_inner, with_node}
use Rattle.yw_tree.specs.declared.NetState.{NetState}
use Rattle.yw_tree.specs.declared.Node.{Node, out-Node}

module _ (d : ℕ) (id : Ident) (s : NetState) where
  pub none_placed : (w : Node) → place_of id s ≡ None → placed_in (suc d) id w s ≡ s
  none_placed w e = ap (over_place (placed_in d id w) id w s) e

  pub none_found : place_of id s ≡ None → item_in (suc d) id s ≡ None
  none_found e = ap (option_and_then (item_at_place (item_in d id) id s)) e

  module _ (p : ℕ × ℕ) (n : Node) (e : place_of id s ≡ Some p) (f : node_at s p.0 p.1 ≡ Some n) where
    pub placed_is : (w : Node) → placed_in (suc d) id w s ≡ with_node s p.0 p.1 (over_node (placed_in d id w) id w n)
    placed_is w = ap (over_place (placed_in d id w) id w s) e ∙ ap (over_at (placed_in d id w) id w s p) f

    pub found_is : item_in (suc d) id s ≡ item_below (item_in d id) id n
    found_is = ap (option_and_then (item_at_place (item_in d id) id s)) e ∙ ap (option_and_then (item_below (item_in d id) id)) f

module _ (id : Ident) (n : Node) where
  pub here_placed : (next : NetState → NetState) (w : Node) → same (out-Node n).id id ≡ true → over_node next id w n ≡ w
  here_placed next w t = ap (λ (b : Bool). cond b w (over_inner next id n (inner_of id n))) t

  pub here_found : (next : NetState → Option Node) → same (out-Node n).id id ≡ true → item_below next id n ≡ Some n
  here_found next t = ap (λ (b : Bool). cond b (Some n) (option_and_then next (inner_of id n))) t

  module _ (t : same (out-Node n).id id ≡ false) where
    pub below_placed : (next : NetState → NetState) (w : Node) (c : NetState) → inner_of id n ≡ Some c → over_node next id w n ≡ with_inner id n (next c)
    below_placed next w c e = ap (λ (b : Bool). cond b w (over_inner next id n (inner_of id n))) t ∙ ap (over_inner next id n) e

    pub below_found : (next : NetState → Option Node) (c : NetState) → inner_of id n ≡ Some c → item_below next id n ≡ next c
    below_found next c e = ap (λ (b : Bool). cond b (Some n) (option_and_then next (inner_of id n))) t ∙ ap (option_and_then next) e

    pub below_none : (next : NetState → Option Node) → inner_of id n ≡ None → item_below next id n ≡ None
    below_none next e = ap (λ (b : Bool). cond b (Some n) (option_and_then next (inner_of id n))) t ∙ ap (option_and_then next) e

pub levels_are : 40 ≡ levels
unfolding levels
levels_are = refl
