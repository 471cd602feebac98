-- Items of a net go, with all below them.
use Rattle.std.proofs.Common.{List, None, Some, [], ap, append_assoc, cond, false, refl, subst, sym, true, ℕ, ◌++◌, ◌∙◌, ◌∷◌, ◌≡◌}
use Rattle.std.specs.FinMap.Entries.{find}
use Rattle.std.specs.Prelude.{option_and_then, ◌||◌}
use Rattle.yw_base.specs.Identity.{under}
use Rattle.yw_sites.proofs.Children.{ends_differ}
use Rattle.yw_sites.proofs.Dropped.{get-drop_all, none_of, some_of}
use Rattle.yw_sites.specs.Entries.{under_any}
use Rattle.yw_sites.proofs.Each.{Each-back, Each-front, each_ends}
use Rattle.yw_sites.proofs.Prefix.{child_strict, other_child, under_refl}
use Rattle.yw_sites.proofs.Swaps.{at, at_apart, at_more, at_skip, at_under}
use Rattle.yw_sites.specs.Entries.{Entries, NoneUnder}
use Rattle.yw_sites.specs.Idents.{AreChildren, Each, IsChild}
use Rattle.yw_state.proofs.Tests.{by_test, never}
use Rattle.yw_state.specs.Identity.{Ident}
use Rattle.yw_state.specs.Map.{get, lexical}
use Rattle.yw_state.specs.State.{Site, Sites, drop_all}
use Rattle.yw_tree.proofs.Equations.{flat-append, net_entries_is}
use Rattle.yw_tree.proofs.Keys.{ids_are, kids, kids-append, node_keys}
use Rattle.yw_tree.proofs.Law.{list_apart}
use Rattle.yw_tree.specs.Boxed.{IsBoxedNode, IsNetAt, ids}
use Rattle.yw_tree.specs.Entries.{flat, net_entries, net_part, node_entries, nodes}
use Rattle.yw_tree.specs.Shows.{ShowsNet, StandsBeside}
use Rattle.yw_tree.specs.declared.NetState.{NetState}
use Rattle.yw_tree.specs.declared.Node.{Node, out-Node}

-- ---- the net without them
module _ (names : ℕ → List ℕ) (m : Sites) (i : Ident) (beside : Entries) (old new : NetState) (front gone back : List Node)
    (was : nodes old ≡ front ++ (gone ++ back)) (now : nodes new ≡ front ++ back) (part : net_part names new ≡ net_part names old)
    (each : Each IsBoxedNode (nodes old)) (net_at : IsNetAt i old) (stands : StandsBeside i (ids old) beside) (shows : ShowsNet names m i beside old) where
  abbrev ents : Node → Entries
  ents = node_entries names

  all_kids : AreChildren i (kids front ++ (kids gone ++ kids back))
  all_kids = subst (AreChildren i) (ids_are old ∙ ap kids was ∙ kids-append front (gone ++ back) ∙ ap (λ z. kids front ++ z) (kids-append gone back)) net_at

  kept : List Node
  kept = front ++ back

  -- nothing of those that stay is under one that goes
  apart_from : (js : List Ident) → Each (IsChild i) js → Each (λ y. Each (λ k. y ≡ k → ⊥) (kids (front ++ back))) js → Each (λ j. NoneUnder j (flat ents (front ++ back))) js
  apart_from [] c d = tt
  apart_from (j ∷ js) c d =
      let kc : Each (IsChild i) (kids (front ++ back)) = subst (Each (IsChild i)) (sym (kids-append front back)) (each_ends (IsChild i) (kids front) (kids gone) (kids back) all_kids.0) in
      let off = off_each j c.0 (kids (front ++ back)) kc d.0 in
      let kb : Each IsBoxedNode (front ++ back) = each_ends IsBoxedNode front gone back (subst (Each IsBoxedNode) was each) in
      (list_apart names j i (above j c.0) (front ++ back) kb kc off, apart_from js c.1 d.1)
    where
      off_each : (j : Ident) → IsChild i j → (ks : List Ident) → Each (IsChild i) ks → Each (λ k. j ≡ k → ⊥) ks → Each (λ k. under j k ≡ false) ks
      off_each j cj [] c d = tt
      off_each j cj (k ∷ ks) c d = (other_child j i j k cj c.0 d.0 (under_refl j), off_each j cj ks c.1 d.1)

      above : (j : Ident) → IsChild i j → under i j ≡ false
      above j c = by_test (under i j) (λ (t : under i j ≡ true). never (sym (child_strict j i j c t) ∙ under_refl j)) (λ (t : under i j ≡ false). t)

  none_of_gone : (q : Ident) (ns : List Node) → Each IsBoxedNode ns → Each (λ j. under q j ≡ false) (kids ns) → at q (flat ents ns) ≡ None
  none_of_gone q [] b h = refl
  none_of_gone q (n ∷ ns) b h = at_skip q (ents n) (flat ents ns) (at_under q (out-Node n).id (ents n) (node_keys names n b.0) h.0) ∙ none_of_gone q ns b.1 h.1

  pub lost : ShowsNet names (drop_all m (kids gone)) i beside new
  lost =
      let before : (net_entries names old).1 ≡ flat ents front ++ (flat ents gone ++ flat ents back) = ap (λ z. z.1) (net_entries_is names old) ∙ ap (flat ents) was ∙ flat-append names front (gone ++ back) ∙ ap (λ z. flat ents front ++ z) (flat-append names gone back) in
      let after : (net_entries names new).1 ≡ flat ents (front ++ back) = ap (λ z. z.1) (net_entries_is names new) ∙ ap (flat ents) now in
      let gone_kids = Each-front (IsChild i) (kids gone) (kids back) (Each-back (IsChild i) (kids front) (kids gone ++ kids back) all_kids.0) in
      let differ = subst (λ z. Each (λ y. Each (λ k. y ≡ k → ⊥) z) (kids gone)) (sym (kids-append front back)) (ends_differ (kids front) (kids gone) (kids back) all_kids.1) in
      let apart_kept = apart_from (kids gone) gone_kids differ in
      let apart_beside = Each-front (λ j. NoneUnder j beside) (kids gone) (kids back) (Each-back (λ j. NoneUnder j beside) (kids front) (kids gone ++ kids back)
      (subst (Each (λ j. NoneUnder j beside)) (ids_are old ∙ ap kids was ∙ kids-append front (gone ++ back) ∙ ap (λ z. kids front ++ z) (kids-append gone back)) stands.apart)) in
      let gone_boxed = Each-front IsBoxedNode gone back (Each-back IsBoxedNode front (gone ++ back) (subst (Each IsBoxedNode) was each)) in
      record {
        part = ap (option_and_then (λ (x : Site). x.net)) (get-drop_all m (kids gone) i ∙ ap (λ b. cond b None (get m i)) (not_here (kids gone) gone_kids)) ∙ shows.part ∙ ap (λ z. Some z) (sym part);
        below = λ q u.
            get-drop_all m (kids gone) q
            ∙ by_test (under_any q (kids gone))
            (λ (t : under_any q (kids gone) ≡ true).
            ap (λ b. cond b None (get m q)) t
            ∙ sym (ap (λ z. find lexical q (z ++ beside)) after ∙ some_of q (kids gone) t (both_apart q (kids gone) apart_kept apart_beside)))
            (λ (t : under_any q (kids gone) ≡ false).
            ap (λ b. cond b None (get m q)) t ∙ shows.below q u ∙ ap (λ z. find lexical q (z ++ beside)) before
            ∙ ap (find lexical q) (append_assoc (flat ents front) (flat ents gone ++ flat ents back) beside)
            ∙ at_more q (flat ents front) _ _ (ap (find lexical q) (append_assoc (flat ents gone) (flat ents back) beside) ∙ at_skip q (flat ents gone) (flat ents back ++ beside) (none_of_gone q gone gone_boxed (none_of q (kids gone) t)))
            ∙ sym (ap (find lexical q) (ap (λ z. z ++ beside) (after ∙ flat-append names front back) ∙ append_assoc (flat ents front) (flat ents back) beside)));
      }
    where
      not_here : (js : List Ident) → Each (IsChild i) js → under_any i js ≡ false
      not_here [] c = refl
      not_here (j ∷ js) c =
          by_test (under i j)
          (λ (t : under i j ≡ true). never (sym (child_strict j i j c.0 t) ∙ under_refl j))
          (λ (t : under i j ≡ false). ap (λ b. b || under_any i js) t ∙ not_here js c.1)

      both_apart : (q : Ident) (js : List Ident) → Each (λ j. NoneUnder j (flat ents (front ++ back))) js → Each (λ j. NoneUnder j beside) js → Each (λ j. under q j ≡ true → find lexical q (flat ents (front ++ back) ++ beside) ≡ None) js
      both_apart q [] a b = tt
      both_apart q (j ∷ js) a b =
          ((λ u. at_skip q (flat ents (front ++ back)) beside (at_apart q j (flat ents (front ++ back)) a.0 u) ∙ at_apart q j beside b.0 u), both_apart q js a.1 b.1)
