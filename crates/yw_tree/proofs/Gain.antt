-- One item more.
use Rattle.std.proofs.Common.{List, None, Some, [], ap, append_assoc, cond, false, refl, sym, true, ℕ, ◌++◌, ◌∙◌, ◌∷◌, ◌≡◌}
use Rattle.std.specs.FinMap.Entries.{find}
use Rattle.std.specs.Ordering.{eq_by_cmp}
use Rattle.std.specs.Prelude.{IsTrue, option_and_then}
use Rattle.yw_sites.proofs.Parts.{other}
use Rattle.yw_sites.proofs.Swaps.{at, at_more, at_skip}
use Rattle.yw_sites.specs.Entries.{Entries}
use Rattle.yw_state.proofs.MapLemmas.{by_name, get-insert, get-insert_other, tied, tied_self}
use Rattle.yw_state.proofs.Tests.{by_test, never, nowhere}
use Rattle.yw_state.specs.Identity.{Ident, strictly_under}
use Rattle.yw_state.specs.Map.{get, insert, lexical}
use Rattle.yw_state.specs.State.{Site, Sites}
use Rattle.yw_tree.proofs.Equations.{flat-append, net_entries_is, node_entries_is}
use Rattle.yw_tree.specs.Entries.{below_net, below_run, flat, item_site, net_entries, net_part, node_entries, nodes}
use Rattle.yw_tree.specs.Shows.{ShowsNet}
use Rattle.yw_tree.specs.declared.NetState.{NetState}
use Rattle.yw_tree.specs.declared.Node.{Node, out-Node}

none_before : (q : Ident) (xs ys : Entries) → at q (xs ++ ys) ≡ None → at q xs ≡ None
none_before q [] ys h = refl
none_before q (x ∷ xs) ys h =
    by_test (eq_by_cmp lexical q x.0)
    (λ (t : eq_by_cmp lexical q x.0 ≡ true). nowhere (sym (ap (λ b. cond b (Some x.1) (at q (xs ++ ys))) (sym t) ∙ h)))
    (λ (t : eq_by_cmp lexical q x.0 ≡ false). ap (λ b. cond b (Some x.1) (at q xs)) t ∙ none_before q xs ys (ap (λ b. cond b (Some x.1) (at q (xs ++ ys))) (sym t) ∙ h))

module _ (names : ℕ → List ℕ) where
  -- an item alone has one entry
  pub alone : (n : Node) → (out-Node n).net ≡ None → (out-Node n).run ≡ None → node_entries names n ≡ ((out-Node n).id, item_site names n) ∷ []
  alone n no_net no_run = node_entries_is names n ∙ (λ j. ((out-Node n).id, item_site names n) ∷ (below_net names (no_net j) ++ below_run names (no_run j)))

  pub gained : (m : Sites) (i : Ident) (beside : Entries) (old new : NetState) (front back : List Node) (n : Node) → nodes old ≡ front ++ back → nodes new ≡ front ++ (n ∷ back) → net_part names new ≡ net_part names old
      → (out-Node n).net ≡ None → (out-Node n).run ≡ None → IsTrue (strictly_under (out-Node n).id i) → get m (out-Node n).id ≡ None → ShowsNet names m i beside old
      → ShowsNet names (insert m (out-Node n).id (item_site names n)) i beside new
  gained m i beside old new front back n was now part no_net no_run within fresh shows =
      let j = (out-Node n).id in
      let site = item_site names n in
      let ents = node_entries names in
      let before : (net_entries names old).1 ++ beside ≡ flat ents front ++ (flat ents back ++ beside) = ap (λ z. z.1 ++ beside) (net_entries_is names old) ∙ ap (λ z. flat ents z ++ beside) was ∙ ap (λ z. z ++ beside) (flat-append names front back) ∙ append_assoc (flat ents front) (flat ents back) beside in
      let after : (net_entries names new).1 ++ beside ≡ flat ents front ++ ((j, site) ∷ (flat ents back ++ beside)) =
      ap (λ z. z.1 ++ beside) (net_entries_is names new) ∙ ap (λ z. flat ents z ++ beside) now ∙ ap (λ z. z ++ beside) (flat-append names front (n ∷ back)) ∙ append_assoc (flat ents front) (ents n ++ flat ents back) beside
      ∙ ap (λ z. flat ents front ++ ((z ++ flat ents back) ++ beside)) (alone n no_net no_run) in
      let none : at j (flat ents front) ≡ None = none_before j (flat ents front) (flat ents back ++ beside) (ap (at j) (sym before) ∙ sym (shows.below j within) ∙ fresh) in
      record {
        part = ap (option_and_then (λ (x : Site). x.net)) (get-insert_other by_name m j site i (λ e. never (sym (other j i within).1 ∙ ap (λ z. eq_by_cmp lexical z i) (sym e) ∙ tied_self by_name i))) ∙ shows.part ∙ ap (λ z. Some z) (sym part);
        below = λ q u.
            get-insert by_name m j site q
            ∙ by_test (eq_by_cmp lexical q j)
            (λ (t : eq_by_cmp lexical q j ≡ true).
            let e = tied by_name q j t in
            ap (λ b. cond b (Some site) (get m q)) t
            ∙ sym (ap (find lexical q) after ∙ at_skip q (flat ents front) _ (ap (λ z. at z (flat ents front)) e ∙ none) ∙ ap (λ b. cond b (Some site) (at q (flat ents back ++ beside))) t))
            (λ (t : eq_by_cmp lexical q j ≡ false).
            ap (λ b. cond b (Some site) (get m q)) t ∙ shows.below q u ∙ ap (find lexical q) before
            ∙ at_more q (flat ents front) _ _ (sym (ap (λ b. cond b (Some site) (at q (flat ents back ++ beside))) t))
            ∙ sym (ap (find lexical q) after));
      }
