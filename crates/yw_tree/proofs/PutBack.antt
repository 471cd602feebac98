-- To place what stands there changes nothing.
use Rattle.std.proofs.Common.{None, Some, ap, false, suc, sym, true, zero, ℕ, ◌∙◌, ◌≡◌}
use Rattle.yw_state.proofs.Tests.{by_option, by_test, nowhere, some_same, then_some}
use Rattle.yw_state.specs.Identity.{Ident, same}
use Rattle.yw_base.specs.Identity.{case_number}
use Rattle.yw_tree.proofs.Same.{same_inner, same_node}
use Rattle.yw_tree.proofs.SameCase.{same_case, same_table}
use Rattle.yw_tree.proofs.Split.{place_there}
use Rattle.yw_tree.proofs.Steps.{below_found, below_none, below_placed, found_is, here_found, here_placed, none_found, placed_is}
use Rattle.yw_tree.specs.Cases.{case_at, with_case}
use Rattle.yw_tree.specs.Forest.{item_of, item_of_case, levels, over_case_inner, item_replaced, item_replaced_at, item_replaced_in_case}
use Rattle.yw_tree.specs.Ways.{case_inner, inner_of, item_below, item_in, over_node, place_of, placed_in, with_case_inner, with_inner, with_node}
use Rattle.yw_tree.specs.declared.Case.{Case}
use Rattle.yw_tree.specs.declared.Forest.{Forest}
use Rattle.yw_tree.specs.declared.NetState.{NetState}
use Rattle.yw_tree.specs.declared.Node.{Node, out-Node}

module _ (id : Ident) (n : Node) where
  item_back : (d : ℕ) → ((c : NetState) → item_in d id c ≡ Some n → placed_in d id n c ≡ c) → (k : Node) → item_below (item_in d id) id k ≡ Some n → over_node (placed_in d id n) id n k ≡ k
  item_back d next k f =
      by_test (same (out-Node k).id id)
      (λ (t : same (out-Node k).id id ≡ true). here_placed id k (placed_in d id n) n t ∙ sym (some_same k n (sym (here_found id k (item_in d id) t) ∙ f)))
      (λ (t : same (out-Node k).id id ≡ false).
      by_option (inner_of id k)
      (λ (e : inner_of id k ≡ None). nowhere (sym (below_none id k t (item_in d id) e) ∙ f))
      (λ (c : NetState) (e : inner_of id k ≡ Some c).
      below_placed id k t (placed_in d id n) n c e ∙ ap (with_inner id k) (next c (sym (below_found id k t (item_in d id) c e) ∙ f)) ∙ same_inner id k c e))

  pub net_back : (d : ℕ) (s : NetState) → item_in d id s ≡ Some n → placed_in d id n s ≡ s
  net_back zero s f = nowhere f
  net_back (suc d) s f =
      by_option (place_of id s)
      (λ (e : place_of id s ≡ None). nowhere (sym (none_found d id s e) ∙ f))
      (λ (p : ℕ × ℕ) (e : place_of id s ≡ Some p).
      let k = place_there id s p e in
      placed_is d id s p k.0 e k.1 n ∙ ap (with_node s p.0 p.1) (item_back d (net_back d) k.0 (sym (found_is d id s p k.0 e k.1) ∙ f)) ∙ same_node s p.0 p.1 k.0 k.1)

  case_back : (c : Case) → item_of_case id c ≡ Some n → item_replaced_in_case id n c ≡ c
  case_back c f =
      let s = then_some (item_in levels id) (case_inner id c) n f in
      ap (over_case_inner id n c) s.1 ∙ ap (with_case_inner id c) (net_back levels s.0 s.2) ∙ same_case id c s.0 s.1

  pub put_back : (f : Forest) → item_of f id ≡ Some n → item_replaced f id n ≡ f
  put_back f e =
      let c = then_some (item_of_case id) (case_at (case_number id) f.cases) n e in
      ap (item_replaced_at f id n) c.1 ∙ (λ j. record { cases = (ap (with_case (case_number id) f.cases) (case_back c.0 c.2) ∙ same_table (case_number id) f.cases c.0 c.1) j })
