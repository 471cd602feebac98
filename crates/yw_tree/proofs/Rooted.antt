-- Where anything stands under an identity, something stands at it.
use Rattle.std.proofs.Common.{List, None, Option, Some, [], ap, cond, false, inl, inr, length, subst, sym, true, ℕ, ⊎_elim, ◌++◌, ◌∙◌, ◌∷◌, ◌≡◌, ◌≤◌, ◌⊎◌}
use Rattle.std.specs.FinMap.Entries.{find}
use Rattle.std.specs.Ordering.{eq_by_cmp}
use Rattle.std.specs.Prelude.{Box, is_some}
use Rattle.std.specs.declared.alloc.Global.{Global}
use Rattle.yw_base.specs.Identity.{under}
use Rattle.yw_sites.proofs.Children.{children_front}
use Rattle.yw_sites.proofs.Each.{Each-append, Each-back, nil_right}
use Rattle.yw_sites.proofs.Parts.{drop_law}
use Rattle.yw_sites.proofs.Prefix.{not_above, not_true, same_true, under_compare}
use Rattle.yw_sites.proofs.Swaps.{keys_apart}
use Rattle.yw_sites.specs.Entries.{AllUnder, Entries, Entry, NoneUnder, Swaps}
use Rattle.yw_sites.specs.Idents.{AreChildren, Each, IsChild}
use Rattle.yw_state.proofs.MapEntries.{get-of_entries}
use Rattle.yw_state.proofs.MapLemmas.{by_name, tied_self}
use Rattle.yw_state.proofs.Tests.{by_test, never}
use Rattle.yw_state.specs.Identity.{Ident, case_ident, same}
use Rattle.yw_state.specs.Map.{get, lexical}
use Rattle.yw_state.specs.State.{Site, drop}
use Rattle.yw_tree.proofs.Equations.{net_entries_is, node_entries_is, run_entries_is}
use Rattle.yw_tree.proofs.Induct.{below_every_net, below_every_node, below_every_run, each_net, each_run}
use Rattle.yw_tree.proofs.Keys.{case_keys, ids_are, kids, node_keys, run_keys}
use Rattle.yw_tree.proofs.Stand.{found_before, found_behind}
use Rattle.yw_tree.proofs.Table.{all}
use Rattle.yw_tree.specs.Boxed.{AtNet, AtNode, AtRun, Held, IsBoxedCase, IsBoxedNet, IsBoxedNode, IsBoxedRun, IsNetAt, ids, net_ids, run_ids}
use Rattle.yw_tree.specs.Cases.{CaseList}
use Rattle.yw_tree.specs.Entries.{below_net, below_run, case_entries, case_site, flat, item_site, net_entries, node_entries, nodes, run_entries, run_site}
use Rattle.yw_tree.specs.Forest.{IsForest, entries, sites_of}
use Rattle.yw_tree.specs.declared.Case.{Case}
use Rattle.yw_tree.specs.declared.Forest.{Forest}
use Rattle.yw_tree.specs.declared.NetState.{NetState}
use Rattle.yw_tree.specs.declared.Node.{Node, every_here-Node, out-Node}
use Rattle.yw_tree.specs.declared.Run.{Run, every_here-Run, out-Run}

module _ (names : ℕ → List ℕ) (k : Ident) where
  -- something stands at k, or nothing at it or under it
  abbrev pub Rooted : Entries → Type 0
  Rooted es = (is_some (find lexical k es) ≡ true) ⊎ NoneUnder k es

  both : (xs ys : Entries) → Rooted xs → Rooted ys → Rooted (xs ++ ys)
  both xs ys p q =
      ⊎_elim
      (λ (f : is_some (find lexical k xs) ≡ true). inl (found_before k xs ys f))
      (λ (n : NoneUnder k xs).
      ⊎_elim
      (λ (f : is_some (find lexical k ys) ≡ true). inl (found_behind k xs ys f))
      (λ (m : NoneUnder k ys). inr (Each-append (λ (e : Entry). under e.0 k ≡ false) xs ys n m))
      q)
      p

  -- a part that leads to k: its own entry, and what is below it
  part : (j : Ident) (x : Site) (es : Entries) → under k j ≡ true → (under j k ≡ false → Rooted es) → Rooted ((j, x) ∷ es)
  part j x es led rest =
      by_test (eq_by_cmp lexical k j)
      (λ (t : eq_by_cmp lexical k j ≡ true). inl (ap (λ b. is_some (cond b (Some x) (find lexical k es))) t))
      (λ (t : eq_by_cmp lexical k j ≡ false).
      let ne : same j k ≡ false = not_true (same j k) (λ s. never (sym t ∙ ap (λ z. eq_by_cmp lexical z j) (sym (same_true j k s)) ∙ tied_self by_name j)) in
      let off : under j k ≡ false = not_above k j led ne in
      ⊎_elim
      (λ (f : is_some (find lexical k es) ≡ true). inl (ap (λ b. is_some (cond b (Some x) (find lexical k es))) t ∙ f))
      (λ (n : NoneUnder k es). inr (off, n))
      (rest off))

  -- a part directly below i, which isn't under k
  child : (i j : Ident) (es : Entries) → IsChild i j → under i k ≡ false → AllUnder j es → (under k j ≡ true → Rooted es) → Rooted es
  child i j es c off keys h =
      by_test (under k j)
      (λ (t : under k j ≡ true). h t)
      (λ (t : under k j ≡ false). inr (keys_apart k i j c off t es keys))

  -- ---- each part
  abbrev RootsNet : NetState → Type 0
  RootsNet s = (i : Ident) → IsBoxedNet s → IsNetAt i s → under i k ≡ false → Rooted (net_entries names s).1

  abbrev RootsNode : Node → Type 0
  RootsNode n = IsBoxedNode n → under k (out-Node n).id ≡ true → Rooted (node_entries names n)

  abbrev RootsRun : Run → Type 0
  RootsRun r = IsBoxedRun r → under k (out-Run r).id ≡ true → Rooted (run_entries names r)

  of_list : (i : Ident) (xs : List Node) → Each RootsNode xs → Each IsBoxedNode xs → Each (IsChild i) (kids xs) → under i k ≡ false → Rooted (flat (node_entries names) xs)
  of_list i [] p b c off = inr tt
  of_list i (x ∷ xs) p b c off =
      both (node_entries names x) (flat (node_entries names) xs)
      (child i (out-Node x).id (node_entries names x) c.0 off (node_keys names x b.0) (p.0 b.0))
      (of_list i xs p.1 b.1 c.1 off)

  of_net : (s : NetState) → Each RootsNode (nodes s) → RootsNet s
  of_net s p i b at off = subst Rooted (sym (ap (λ z. z.1) (net_entries_is names s))) (of_list i (nodes s) p (below_every_net AtNet AtNode AtRun s b) (subst (Each (IsChild i)) (ids_are s) at.0) off)

  of_held : (i : Ident) (o : Option (Box NetState Global)) (js : List Ident) → Held RootsNet o → Held IsBoxedNet o → AreChildren i (net_ids o ++ js) → under i k ≡ false → Rooted (below_net names o)
  of_held i None js p b c off = inr tt
  of_held i (Some x) js p b c off = p i b (children_front i (ids x.value) js c) off

  of_hung : (i : Ident) (o : Option (Box Run Global)) → Held RootsRun o → Held IsBoxedRun o → Each (IsChild i) (run_ids o) → under i k ≡ false → Rooted (below_run names o)
  of_hung i None p b c off = inr tt
  of_hung i (Some y) p b c off = child i (out-Run y.value).id (run_entries names y.value) c.0 off (run_keys names y.value b) (p b)

  of_node : (n : Node) → Held RootsNet (out-Node n).net → Held RootsRun (out-Node n).run → RootsNode n
  of_node n p q b led =
      let d = below_every_node AtNet AtNode AtRun n b in
      let l = out-Node n in
      let here : AreChildren l.id (net_ids l.net ++ run_ids l.run) = every_here-Node AtNet AtNode AtRun n b in
      subst Rooted (sym (node_entries_is names n))
      (part l.id (item_site names n) (below_net names l.net ++ below_run names l.run) led (λ off.
      both (below_net names l.net) (below_run names l.run)
      (of_held l.id l.net (run_ids l.run) p d.0 here off)
      (of_hung l.id l.run q d.1 (Each-back (IsChild l.id) (net_ids l.net) (run_ids l.run) here.0) off)))

  of_run : (r : Run) → Held RootsNet (out-Run r).net → RootsRun r
  of_run r p b led =
      let d = below_every_run AtNet AtNode AtRun r b in
      let l = out-Run r in
      let here : AreChildren l.id (net_ids l.net) = every_here-Run AtNet AtNode AtRun r b in
      subst Rooted (sym (run_entries_is names r))
      (part l.id (run_site names r) (below_net names l.net) led (λ off. of_held l.id l.net [] p d (subst (AreChildren l.id) (sym (nil_right (net_ids l.net))) here) off))

  roots_net : (s : NetState) → RootsNet s
  roots_net = each_net RootsNet RootsNode RootsRun of_net of_node of_run

  roots_run : (r : Run) → RootsRun r
  roots_run = each_run RootsNet RootsNode RootsRun of_net of_node of_run

  all_hung : (o : Option (Box Run Global)) → Held RootsRun o
  all_hung None = tt
  all_hung (Some x) = roots_run x.value

  -- ---- all cases
  of_case : (c : Case) → IsBoxedCase c → under k c.id ≡ true → Rooted (case_entries names c)
  of_case c b led =
      part c.id (case_site names c) ((net_entries names c.net).1 ++ below_run names c.run) led (λ off.
      both (net_entries names c.net).1 (below_run names c.run)
      (roots_net c.net c.id b.net (children_front c.id (ids c.net) (run_ids c.run) b.here) off)
      (of_hung c.id c.run (all_hung c.run) b.run (Each-back (IsChild c.id) (ids c.net) (run_ids c.run) b.here.0) off))

  -- a case that doesn't lead to k has nothing under k
  other_case : (n : ℕ) → 1 ≤ length k → under k (case_ident n) ≡ false → (es : Entries) → AllUnder (case_ident n) es → NoneUnder k es
  other_case n long off [] h = tt
  other_case n long off (e ∷ es) h = (not_true (under e.0 k) (λ t. never (sym off ∙ under_compare e.0 k (case_ident n) long t h.0)), other_case n long off es h.1)

  of_cases : (cs : CaseList) → 1 ≤ length k → Each (λ (e : ℕ × Case). (e.1.id ≡ case_ident e.0) × IsBoxedCase e.1) cs → Rooted (all names cs)
  of_cases [] long b = inr tt
  of_cases (c ∷ cs) long b =
      both (case_entries names c.1) (all names cs)
      (by_test (under k c.1.id)
      (λ (t : under k c.1.id ≡ true). of_case c.1 b.0.1 t)
      (λ (t : under k c.1.id ≡ false). inr (other_case c.0 long (ap (under k) (sym b.0.0) ∙ t) (case_entries names c.1) (subst (λ z. AllUnder z (case_entries names c.1)) b.0.0 (case_keys names c.1 b.0.1)))))
      (of_cases cs long b.1)

  pub forest_rooted : (f : Forest) → IsForest f → 1 ≤ length k → Rooted (entries names f)
  forest_rooted f b long = of_cases f.cases long b.1

  -- where nothing stands at k, all that is dropped with it is nothing
  pub nothing_dropped : (f : Forest) → IsForest f → 1 ≤ length k → get (sites_of names f) k ≡ None → sites_of names f ≡ drop (sites_of names f) k
  nothing_dropped f b long e =
      ⊎_elim
      (λ (h : is_some (find lexical k (entries names f)) ≡ true). never (sym (ap is_some (sym (get-of_entries by_name (entries names f) k) ∙ e)) ∙ h))
      (λ (h : NoneUnder k (entries names f)).
      let s : Swaps k [] [] (entries names f) (entries names f) = record { front = entries names f; back = []; before = sym (nil_right (entries names f)); after = sym (nil_right (entries names f)); front_apart = h; back_apart = tt } in
      drop_law k [] (entries names f) (entries names f) s tt)
      (forest_rooted f b long)
