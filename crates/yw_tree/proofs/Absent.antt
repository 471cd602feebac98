-- Where no item is found at an identity, the map has none there.
use Rattle.std.proofs.Common.{Bool, List, None, Option, Some, [], ap, arith, cond, false, length, refl, subst, suc, sym, true, zero, ℕ, ◌++◌, ◌+◌, ◌∙◌, ◌∷◌, ◌≡◌, ◌≤◌}
use Rattle.std.proofs.lemmas.Bool.{false_from_ne_true}
use Rattle.std.specs.FinMap.Entries.{find}
use Rattle.std.specs.Ordering.{eq_by_cmp}
use Rattle.std.specs.Prelude.{Box, option_and_then}
use Rattle.std.specs.declared.alloc.Global.{Global}
use Rattle.yw_base.specs.Identity.{under}
use Rattle.yw_sites.proofs.Children.{children_front, others_off}
use Rattle.yw_sites.proofs.Each.{Each-back, Each-front, each_mid, each_rest}
use Rattle.yw_sites.proofs.Prefix.{child_length, same_refl, under_short}
use Rattle.yw_sites.proofs.Swaps.{at, at_skip, at_stop, at_under}
use Rattle.yw_sites.specs.Entries.{Entries}
use Rattle.yw_sites.specs.Idents.{AreChildren, Each, IsChild}
use Rattle.yw_state.proofs.MapLemmas.{by_name, tied}
use Rattle.yw_state.proofs.Tests.{by_option, by_test, never, nowhere}
use Rattle.yw_state.specs.Identity.{Ident, same}
use Rattle.yw_state.specs.Map.{lexical}
use Rattle.yw_state.specs.State.{ItemPart, Site}
use Rattle.yw_tree.proofs.Equations.{flat-append, net_entries_is, node_entries_is, run_entries_is}
use Rattle.yw_tree.proofs.Halves.{none_leads}
use Rattle.yw_tree.proofs.Induct.{below_every_net, below_every_node, below_every_run}
use Rattle.yw_tree.proofs.Keys.{ids_are, kids, kids-append, node_keys, run_keys}
use Rattle.yw_tree.proofs.Split.{in_net, place_leads, place_there}
use Rattle.yw_tree.proofs.Steps.{found_is, here_found}
use Rattle.yw_tree.specs.Boxed.{AtNet, AtNode, AtRun, Held, IsBoxedNet, IsBoxedNode, IsBoxedRun, IsNetAt, ids, net_ids, run_ids}
use Rattle.yw_tree.specs.Entries.{below_net, below_run, flat, item_site, net_entries, node_entries, nodes, run_entries, run_site}
use Rattle.yw_tree.specs.Ways.{inner_of, item_below, item_in, leads, net_in, net_in_run, place_of, run_leads}
use Rattle.yw_tree.specs.declared.NetState.{NetState}
use Rattle.yw_tree.specs.declared.Node.{Node, every_here-Node, out-Node}
use Rattle.yw_tree.specs.declared.Run.{Run, every_here-Run, out-Run}

module _ (names : ℕ → List ℕ) (id : Ident) where
  abbrev ents : Node → Entries
  ents = node_entries names

  abbrev pub item_there : Entries → Option ItemPart
  item_there es = option_and_then (λ (x : Site). x.item) (find lexical id es)

  pub none_of : (ns : List Node) → Each IsBoxedNode ns → Each (λ k. under id k ≡ false) (kids ns) → at id (flat ents ns) ≡ None
  none_of [] b h = refl
  none_of (n ∷ ns) b h = at_skip id (ents n) (flat ents ns) (at_under id (out-Node n).id (ents n) (node_keys names n b.0) h.0) ∙ none_of ns b.1 h.1

  pub by_kids : (ns : List Node) → Each (λ n. leads id n ≡ false) ns → Each (λ k. under id k ≡ false) (kids ns)
  by_kids [] h = tt
  by_kids (n ∷ ns) h = (h.0, by_kids ns h.1)

  pub short : (i : Ident) → length id ≤ length i → (ks : List Ident) → Each (IsChild i) ks → Each (λ k. under id k ≡ false) ks
  short i l [] c = tt
  short i l (k ∷ ks) c = (under_short id k (let e = child_length i k c.0 in omega arith), short i l ks c.1)

  pub none_net : (s : NetState) → IsBoxedNet s → Each (λ k. under id k ≡ false) (ids s) → at id (net_entries names s).1 ≡ None
  none_net s b h = ap (λ z. at id z.1) (net_entries_is names s) ∙ none_of (nodes s) (below_every_net AtNet AtNode AtRun s b) (subst (Each (λ k. under id k ≡ false)) (ids_are s) h)

  pub none_held : (o : Option (Box NetState Global)) → Held IsBoxedNet o → Each (λ k. under id k ≡ false) (net_ids o) → at id (below_net names o) ≡ None
  none_held None b h = refl
  none_held (Some x) b h = none_net x.value b h

  pub none_run : (r : Option (Box Run Global)) → Held IsBoxedRun r → run_leads id r ≡ false → at id (below_run names r) ≡ None
  none_run None b h = refl
  none_run (Some y) b h = at_under id (out-Run y.value).id (run_entries names y.value) (run_keys names y.value b) h

  pub not_tied : (j : Ident) → same j id ≡ false → eq_by_cmp lexical id j ≡ false
  not_tied j t = false_from_ne_true _ (λ u. never (sym t ∙ ap (λ z. same z id) (sym (tied by_name id j u)) ∙ same_refl id))

  abbrev Absent : ℕ → Type 0
  Absent d = (i : Ident) (s : NetState) → IsBoxedNet s → IsNetAt i s → length id ≤ length i + d → item_in d id s ≡ None → item_there (net_entries names s).1 ≡ None

  -- ---- through a net that stands there, or none
  in_held : (d : ℕ) → Absent d → (i : Ident) (o : Option (Box NetState Global)) → Held IsBoxedNet o → AreChildren i (net_ids o) → length id ≤ length i + d → option_and_then (item_in d id) (net_in o) ≡ None → item_there (below_net names o) ≡ None
  in_held d h i None b c l e = refl
  in_held d h i (Some x) b c l e = h i x.value b c l e

  pub in_run : (d : ℕ) → Absent d → (i : Ident) (r : Option (Box Run Global)) → Held IsBoxedRun r → Each (IsChild i) (run_ids r) → length id ≤ length i + suc d → option_and_then (item_in d id) (net_in_run r) ≡ None → item_there (below_run names r) ≡ None
  in_run d h i None b c l e = refl
  in_run d h i (Some y) b c l e =
      let r = y.value in
      let rest = in_held d h (out-Run r).id (out-Run r).net (below_every_run AtNet AtNode AtRun r b) (every_here-Run AtNet AtNode AtRun r b) (let k = child_length i (out-Run r).id c.0 in omega arith) e in
      ap (λ z. item_there z) (run_entries_is names r)
      ∙ by_test (eq_by_cmp lexical id (out-Run r).id)
      (λ (t : eq_by_cmp lexical id (out-Run r).id ≡ true). ap (λ b. option_and_then (λ (x : Site). x.item) (cond b (Some (run_site names r)) (find lexical id (below_net names (out-Run r).net)))) t)
      (λ (t : eq_by_cmp lexical id (out-Run r).id ≡ false). ap (λ b. option_and_then (λ (x : Site). x.item) (cond b (Some (run_site names r)) (find lexical id (below_net names (out-Run r).net)))) t ∙ rest)

  in_item : (d : ℕ) → Absent d → (n : Node) → IsBoxedNode n → length id ≤ length (out-Node n).id + d → item_below (item_in d id) id n ≡ None → item_there (ents n) ≡ None
  in_item d h n b l e =
      let o = out-Node n in
      let down = below_every_node AtNet AtNode AtRun n b in
      let children : AreChildren o.id (net_ids o.net ++ run_ids o.run) = every_here-Node AtNet AtNode AtRun n b in
      by_test (same o.id id)
      (λ (t : same o.id id ≡ true). nowhere (sym e ∙ here_found id n (item_in d id) t))
      (λ (t : same o.id id ≡ false).
      let f : option_and_then (item_in d id) (inner_of id n) ≡ None = ap (λ (z : Bool). cond z (Some n) (option_and_then (item_in d id) (inner_of id n))) (sym t) ∙ e in
      ap (λ z. item_there z) (node_entries_is names n)
      ∙ ap (λ b. option_and_then (λ (x : Site). x.item) (cond b (Some (item_site names n)) (find lexical id (below_net names o.net ++ below_run names o.run)))) (not_tied o.id t)
      ∙ by_test (run_leads id o.run)
      (λ (u : run_leads id o.run ≡ true).
      ap (option_and_then (λ (x : Site). x.item)) (at_skip id (below_net names o.net) (below_run names o.run) (none_held o.net down.0 (off o.id o.net o.run u children)))
      ∙ in_run d h o.id o.run down.1 (Each-back (IsChild o.id) (net_ids o.net) (run_ids o.run) children.0) (omega arith) (ap (λ (z : Bool). option_and_then (item_in d id) (cond z (net_in_run o.run) (net_in o.net))) (sym u) ∙ f))
      (λ (u : run_leads id o.run ≡ false).
      ap (option_and_then (λ (x : Site). x.item)) (at_stop id (below_net names o.net) (below_run names o.run) (none_run o.run down.1 u))
      ∙ in_held d h o.id o.net down.0 (children_front o.id (net_ids o.net) (run_ids o.run) children) l (ap (λ (z : Bool). option_and_then (item_in d id) (cond z (net_in_run o.run) (net_in o.net))) (sym u) ∙ f)))
    where
      off : (i : Ident) (o : Option (Box NetState Global)) (r : Option (Box Run Global)) → run_leads id r ≡ true → AreChildren i (net_ids o ++ run_ids r) → Each (λ k. under id k ≡ false) (net_ids o)
      off i o None u c = never u
      off i o (Some y) u c = (others_off id i (net_ids o) (out-Run y.value).id [] c u).0

  pub absent : (d : ℕ) → Absent d
  absent zero i s b at l e = ap (option_and_then (λ (x : Site). x.item)) (none_net s b (short i (omega arith) (ids s) at.0))
  absent (suc d) i s b at l e =
      by_option (place_of id s)
      (λ (p : place_of id s ≡ None). ap (option_and_then (λ (x : Site). x.item)) (none_net s b (subst (Each (λ k. under id k ≡ false)) (sym (ids_are s)) (by_kids (nodes s) (none_leads id i s b at p)))))
      (λ (p : ℕ × ℕ) (h : place_of id s ≡ Some p).
      let n = place_there id s p h in
      let q = in_net s p.0 p.1 n.0 n.1 in
      let led = place_leads id s p n.0 h n.1 in
      let each = subst (Each IsBoxedNode) q.whole (below_every_net AtNet AtNode AtRun s b) in
      let these : AreChildren i (kids q.front ++ ((out-Node n.0).id ∷ kids q.back)) = subst (AreChildren i) (ids_are s ∙ ap kids q.whole ∙ kids-append q.front (n.0 ∷ q.back)) at in
      let off = others_off id i (kids q.front) (out-Node n.0).id (kids q.back) these led in
      let deep = child_length i (out-Node n.0).id (each_mid (IsChild i) (kids q.front) (out-Node n.0).id (kids q.back) these.0) in
      let front = none_of q.front (Each-front IsBoxedNode q.front (n.0 ∷ q.back) each) off.0 in
      let back = none_of q.back (each_rest IsBoxedNode q.front n.0 q.back each) off.1 in
      ap (λ z. item_there z.1) (net_entries_is names s) ∙ ap (λ z. item_there (flat ents z)) q.whole ∙ ap item_there (flat-append names q.front (n.0 ∷ q.back))
      ∙ ap (option_and_then (λ (x : Site). x.item)) (at_skip id (flat ents q.front) (ents n.0 ++ flat ents q.back) front ∙ at_stop id (ents n.0) (flat ents q.back) back)
      ∙ in_item d (absent d) n.0 (each_mid IsBoxedNode q.front n.0 q.back each) (omega arith) (sym (found_is d id s p n.0 h n.1) ∙ e))
