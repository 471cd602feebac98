-- The item that is found at an identity has it, and is well boxed.
use Rattle.std.proofs.Common.{Bool, None, Option, Some, ap, cond, false, subst, suc, sym, true, zero, ℕ, ◌∙◌, ◌≡◌}
use Rattle.std.specs.Prelude.{Box}
use Rattle.std.specs.declared.alloc.Global.{Global}
use Rattle.yw_sites.proofs.Each.{each_mid}
use Rattle.yw_sites.proofs.Prefix.{same_true}
use Rattle.yw_sites.specs.Idents.{Each}
use Rattle.yw_state.proofs.Tests.{by_option, by_test, nowhere, some_same}
use Rattle.yw_state.specs.Identity.{Ident, same}
use Rattle.yw_tree.proofs.Induct.{below_every_net, below_every_node, below_every_run}
use Rattle.yw_tree.proofs.Split.{in_net, place_there}
use Rattle.yw_tree.proofs.Steps.{below_found, below_none, found_is, here_found, none_found}
use Rattle.yw_tree.specs.Boxed.{AtNet, AtNode, AtRun, Held, IsBoxedNet, IsBoxedNode, IsBoxedRun}
use Rattle.yw_tree.specs.Ways.{inner_of, item_below, item_in, net_in, net_in_run, place_of, run_leads}
use Rattle.yw_tree.specs.declared.NetState.{NetState}
use Rattle.yw_tree.specs.declared.Node.{Node, out-Node}
use Rattle.yw_tree.specs.declared.Run.{Run, out-Run}

pub boxed_in : (o : Option (Box NetState Global)) (c : NetState) → Held IsBoxedNet o → net_in o ≡ Some c → IsBoxedNet c
boxed_in None c b e = nowhere e
boxed_in (Some x) c b e = subst IsBoxedNet (some_same x.value c e) b

pub boxed_in_run : (r : Option (Box Run Global)) (c : NetState) → Held IsBoxedRun r → net_in_run r ≡ Some c → IsBoxedNet c
boxed_in_run None c b e = nowhere e
boxed_in_run (Some y) c b e = boxed_in (out-Run y.value).net c (below_every_run AtNet AtNode AtRun y.value b) e

pub boxed_inner : (id : Ident) (n : Node) (c : NetState) → IsBoxedNode n → inner_of id n ≡ Some c → IsBoxedNet c
boxed_inner id n c b e =
    let o = out-Node n in
    let d = below_every_node AtNet AtNode AtRun n b in
    by_test (run_leads id o.run)
    (λ (u : run_leads id o.run ≡ true). boxed_in_run o.run c d.1 (ap (λ (z : Bool). cond z (net_in_run o.run) (net_in o.net)) (sym u) ∙ e))
    (λ (u : run_leads id o.run ≡ false). boxed_in o.net c d.0 (ap (λ (z : Bool). cond z (net_in_run o.run) (net_in o.net)) (sym u) ∙ e))

module _ (id : Ident) (old : Node) where
  abbrev pub IsFound : Type 0
  IsFound = ((out-Node old).id ≡ id) × IsBoxedNode old

  pub found : (d : ℕ) (s : NetState) → IsBoxedNet s → item_in d id s ≡ Some old → IsFound
  found zero s b f = nowhere f
  found (suc d) s b f =
      by_option (place_of id s)
      (λ (e : place_of id s ≡ None). nowhere (sym (none_found d id s e) ∙ f))
      (λ (p : ℕ × ℕ) (e : place_of id s ≡ Some p).
      let n = place_there id s p e in
      let q = in_net s p.0 p.1 n.0 n.1 in
      let bn = each_mid IsBoxedNode q.front n.0 q.back (subst (Each IsBoxedNode) q.whole (below_every_net AtNet AtNode AtRun s b)) in
      let g : item_below (item_in d id) id n.0 ≡ Some old = sym (found_is d id s p n.0 e n.1) ∙ f in
      by_test (same (out-Node n.0).id id)
      (λ (t : same (out-Node n.0).id id ≡ true).
      subst (λ (z : Node). ((out-Node z).id ≡ id) × IsBoxedNode z) (some_same n.0 old (sym (here_found id n.0 (item_in d id) t) ∙ g)) (same_true (out-Node n.0).id id t, bn))
      (λ (t : same (out-Node n.0).id id ≡ false).
      by_option (inner_of id n.0)
      (λ (e : inner_of id n.0 ≡ None). nowhere (sym (below_none id n.0 t (item_in d id) e) ∙ g))
      (λ (c : NetState) (h : inner_of id n.0 ≡ Some c). found d c (boxed_inner id n.0 c bn h) (sym (below_found id n.0 t (item_in d id) c h) ∙ g))))
