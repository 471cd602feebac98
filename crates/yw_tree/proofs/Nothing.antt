-- Where neither an item nor a run is found at an identity, nothing stands there.
use Rattle.std.proofs.Common.{Bool, List, None, Option, Some, [], ap, arith, cond, false, length, refl, subst, suc, sym, true, zero, ℕ, ◌++◌, ◌+◌, ◌<◌, ◌∙◌, ◌∷◌, ◌≡◌, ◌≤◌}
use Rattle.std.proofs.lemmas.Bool.{eq-eqb, eqb-true, false_from_ne_true}
use Rattle.std.specs.FinMap.Entries.{find, is_sorted}
use Rattle.std.specs.Ordering.{nat_cmp}
use Rattle.std.specs.Prelude.{Box, T, is_some, option_and_then}
use Rattle.std.specs.declared.alloc.Global.{Global}
use Rattle.yw_base.specs.Identity.{under, case_number, parent}
use Rattle.yw_sites.proofs.Children.{children_front, others_off}
use Rattle.yw_sites.proofs.Each.{Each-back, Each-front, each_mid, each_rest}
use Rattle.yw_sites.proofs.Prefix.{child_length, not_true, same_refl, same_true, under_refl, under_trans}
use Rattle.yw_sites.proofs.Swaps.{at, at_apart, at_skip, at_stop}
use Rattle.yw_sites.specs.Entries.{Entries}
use Rattle.yw_sites.specs.Idents.{AreChildren, Each, IsChild}
use Rattle.yw_state.proofs.MapEntries.{get-of_entries}
use Rattle.yw_state.proofs.MapLemmas.{by_name}
use Rattle.yw_state.proofs.Tests.{by_option, by_test, never, nowhere}
use Rattle.yw_state.specs.Identity.{Ident, case_ident, is_case_ident, same}
use Rattle.yw_state.specs.Map.{get, lexical}
use Rattle.yw_tree.proofs.Absent.{by_kids, none_held, none_net, none_of, none_run, not_tied, short}
use Rattle.yw_tree.proofs.Equations.{flat-append, net_entries_is, node_entries_is, run_entries_is}
use Rattle.yw_tree.proofs.ForestLaw.{InCase, in_case}
use Rattle.yw_tree.proofs.Halves.{none_leads, place_is}
use Rattle.yw_tree.proofs.Induct.{below_every_net, below_every_node, below_every_run}
use Rattle.yw_tree.proofs.Keys.{ids_are, kids, kids-append}
use Rattle.yw_tree.proofs.Lift.{none_at}
use Rattle.yw_tree.proofs.RunBack.{hung_is}
use Rattle.yw_tree.proofs.RunFound.{run_at_case, run_at_item}
use Rattle.yw_tree.proofs.Shorter.{leads_above, parent_of, under_its_parent}
use Rattle.yw_tree.proofs.Split.{in_net, place_leads, place_there}
use Rattle.yw_tree.proofs.Steps.{found_is, here_found, levels_are}
use Rattle.yw_tree.proofs.Table.{all, all-append, cases_apart, in_table, others}
use Rattle.yw_tree.specs.Boxed.{AtNet, AtNode, AtRun, Held, IsBoxedCase, IsBoxedNet, IsBoxedNode, IsBoxedRun, IsNetAt, ids, net_ids, run_ids}
use Rattle.yw_tree.specs.Cases.{case_at}
use Rattle.yw_tree.specs.Entries.{below_net, below_run, case_entries, case_site, flat, item_site, net_entries, node_entries, nodes, run_site}
use Rattle.yw_tree.specs.Forest.{IsForest, entries, item_of, item_of_case, levels, sites_of}
use Rattle.yw_tree.specs.Places.{has_run, run_at, run_of, run_of_case, run_of_item}
use Rattle.yw_tree.specs.Ways.{inner_of, item_below, item_in, leads, net_in, net_in_run, place_of, run_leads}
use Rattle.yw_tree.specs.declared.Case.{Case}
use Rattle.yw_tree.specs.declared.Forest.{Forest}
use Rattle.yw_tree.specs.declared.NetState.{NetState}
use Rattle.yw_tree.specs.declared.Node.{Node, every_here-Node, out-Node}
use Rattle.yw_tree.specs.declared.Run.{Run, every_here-Run, out-Run}

-- a run whose identity is none of these stands elsewhere
not_its_run : (id : Ident) (o : Option (Box Run Global)) → run_at id o ≡ None → has_run id o ≡ false
not_its_run id o e = hung_is id o ∙ ap is_some e

module _ (names : ℕ → List ℕ) (id : Ident) (long : 1 ≤ length id) where
  abbrev ents : Node → Entries
  ents = node_entries names

  abbrev up : Ident
  up = parent id

  -- no run with the identity is found, so many levels below a net, if there is one
  abbrev NoRun : ℕ → Option NetState → Type 0
  NoRun d o = option_and_then (run_of_item id) (option_and_then (item_in d (parent id)) o) ≡ None

  abbrev Nothing : ℕ → Type 0
  Nothing d = (i : Ident) (s : NetState) → IsBoxedNet s → IsNetAt i s → length id ≤ length i + d → item_in d id s ≡ None → (length i < length (parent id) → NoRun d (Some s)) → at id (net_entries names s).1 ≡ None

  -- ---- through a net that stands there, or none
  in_held : (d : ℕ) → Nothing d → (i : Ident) (o : Option (Box NetState Global)) → Held IsBoxedNet o → AreChildren i (net_ids o) → length id ≤ length i + d → option_and_then (item_in d id) (net_in o) ≡ None
      → (length i < length (parent id) → NoRun d (net_in o)) → at id (below_net names o) ≡ None
  in_held d h i None b c l e r = refl
  in_held d h i (Some x) b c l e r = h i x.value b c l e r

  -- ---- through a run
  in_run : (d : ℕ) → Nothing d → (i : Ident) (o : Option (Box Run Global)) → Held IsBoxedRun o → Each (IsChild i) (run_ids o) → length id ≤ length i + d → option_and_then (item_in d id) (net_in_run o) ≡ None → has_run id o ≡ false
      → (length i < length (parent id) → NoRun d (net_in_run o)) → at id (below_run names o) ≡ None
  in_run d h i None b c l e n r = refl
  in_run d h i (Some y) b c l e n r =
      let o = out-Run y.value in
      let k = child_length i o.id c.0 in
      let deep : length id ≤ length o.id + d = omega arith in
      ap (at id) (run_entries_is names y.value)
      ∙ ap (λ z. cond z (Some (run_site names y.value)) (find lexical id (below_net names o.net))) (not_tied names id o.id n)
      ∙ in_held d h o.id o.net (below_every_run AtNet AtNode AtRun y.value b) (every_here-Run AtNet AtNode AtRun y.value b) deep e (λ lt. let before : length i < length (parent id) = omega arith in r before)

  -- ---- through an item that leads there
  module _ (d : ℕ) (h : Nothing d) (n : Node) (b : IsBoxedNode n) (led : leads id n ≡ true) (l : length id ≤ length (out-Node n).id + d) (e : item_below (item_in d id) id n ≡ None)
      (r : length (out-Node n).id ≤ length (parent id) → option_and_then (run_of_item id) (item_below (item_in d (parent id)) (parent id) n) ≡ None) (t : same (out-Node n).id id ≡ false) where
    down : Held IsBoxedNet (out-Node n).net × Held IsBoxedRun (out-Node n).run
    down = below_every_node AtNet AtNode AtRun n b

    children : AreChildren (out-Node n).id (net_ids (out-Node n).net ++ run_ids (out-Node n).run)
    children = every_here-Node AtNet AtNode AtRun n b

    no_item : option_and_then (item_in d id) (inner_of id n) ≡ None
    no_item = ap (λ (z : Bool). cond z (Some n) (option_and_then (item_in d id) (inner_of id n))) (sym t) ∙ e

    -- further down no run has the identity either
    further : length (out-Node n).id < length (parent id) → option_and_then (run_of_item id) (option_and_then (item_in d (parent id)) (inner_of (parent id) n)) ≡ None
    further lt =
        let le : length (out-Node n).id ≤ length (parent id) = omega arith in
        let ne : same (out-Node n).id (parent id) ≡ false = false_from_ne_true _ (λ u. let s : length (out-Node n).id ≡ length (parent id) = ap length (same_true (out-Node n).id (parent id) u) in absurd (omega arith)) in
        ap (option_and_then (run_of_item id)) (ap (λ (z : Bool). cond z (Some n) (option_and_then (item_in d (parent id)) (inner_of (parent id) n))) (sym ne)) ∙ r le

    -- nor does the item's own run
    other_run : has_run id (out-Node n).run ≡ false
    other_run =
        by_test (same (out-Node n).id (parent id))
        (λ (u : same (out-Node n).id (parent id) ≡ true).
        let s : length (out-Node n).id ≡ length (parent id) = ap length (same_true (out-Node n).id (parent id) u) in
        let le : length (out-Node n).id ≤ length (parent id) = omega arith in
        not_its_run id (out-Node n).run (ap (option_and_then (run_of_item id)) (sym (here_found (parent id) n (item_in d (parent id)) u)) ∙ r le))
        (λ (u : same (out-Node n).id (parent id) ≡ false). not_it (out-Node n).run (Each-back (IsChild (out-Node n).id) (net_ids (out-Node n).net) (run_ids (out-Node n).run) children.0) u)
      where
        not_it : (o : Option (Box Run Global)) → Each (IsChild (out-Node n).id) (run_ids o) → same (out-Node n).id (parent id) ≡ false → has_run id o ≡ false
        not_it None c u = refl
        not_it (Some y) c u = false_from_ne_true _ (λ v.
            let it : (out-Run y.value).id ≡ id = same_true (out-Run y.value).id id v in
            let s : parent id ≡ (out-Node n).id = parent_of id long (out-Node n).id (subst (IsChild (out-Node n).id) it c.0) in
            never (sym u ∙ ap (same (out-Node n).id) s ∙ same_refl (out-Node n).id))

    in_item : at id (ents n) ≡ None
    in_item =
        let o = out-Node n in
        ap (at id) (node_entries_is names n)
        ∙ ap (λ z. cond z (Some (item_site names n)) (find lexical id (below_net names o.net ++ below_run names o.run))) (not_tied names id o.id t)
        ∙ by_test (run_leads id o.run)
        (λ (u : run_leads id o.run ≡ true).
        at_skip id (below_net names o.net) (below_run names o.run) (none_held names id o.net down.0 (off o.run u children))
        ∙ in_run d h o.id o.run down.1 (Each-back (IsChild o.id) (net_ids o.net) (run_ids o.run) children.0) l (ap (λ (z : Bool). option_and_then (item_in d id) (cond z (net_in_run o.run) (net_in o.net))) (sym u) ∙ no_item) other_run
        (λ lt. ap (λ (z : Bool). option_and_then (run_of_item id) (option_and_then (item_in d (parent id)) (cond z (net_in_run o.run) (net_in o.net)))) (sym (leads_too o.run u (Each-back (IsChild o.id) (net_ids o.net) (run_ids o.run) children.0) lt)) ∙ further lt))
        (λ (u : run_leads id o.run ≡ false).
        at_stop id (below_net names o.net) (below_run names o.run) (none_run names id o.run down.1 u)
        ∙ in_held d h o.id o.net down.0 (children_front o.id (net_ids o.net) (run_ids o.run) children) l (ap (λ (z : Bool). option_and_then (item_in d id) (cond z (net_in_run o.run) (net_in o.net))) (sym u) ∙ no_item)
        (λ lt. ap (λ (z : Bool). option_and_then (run_of_item id) (option_and_then (item_in d (parent id)) (cond z (net_in_run o.run) (net_in o.net)))) (sym (leads_not o.run u)) ∙ further lt))
      where
        off : (r : Option (Box Run Global)) → run_leads id r ≡ true → AreChildren (out-Node n).id (net_ids (out-Node n).net ++ run_ids r) → Each (λ k. under id k ≡ false) (net_ids (out-Node n).net)
        off None u c = never u
        off (Some y) u c = (others_off id (out-Node n).id (net_ids (out-Node n).net) (out-Run y.value).id [] c u).0

        leads_too : (o : Option (Box Run Global)) → run_leads id o ≡ true → Each (IsChild (out-Node n).id) (run_ids o) → length (out-Node n).id < length (parent id) → run_leads (parent id) o ≡ true
        leads_too None u c lt = never u
        leads_too (Some y) u c lt =
            let k = child_length (out-Node n).id (out-Run y.value).id c.0 in
            let fits : length (out-Run y.value).id ≤ length (parent id) = omega arith in
            leads_above id long (out-Run y.value).id u fits

        leads_not : (o : Option (Box Run Global)) → run_leads id o ≡ false → run_leads (parent id) o ≡ false
        leads_not None u = refl
        leads_not (Some y) u = not_true _ (λ v. never (sym u ∙ under_trans id (parent id) (out-Run y.value).id (under_its_parent id long) v))

  nothing : (d : ℕ) → Nothing d
  nothing zero i s b a l e r = none_net names id s b (short names id i (omega arith) (ids s) a.0)
  nothing (suc d) i s b a l e r =
      by_option (place_of id s)
      (λ (p : place_of id s ≡ None). none_net names id s b (subst (Each (λ k. under id k ≡ false)) (sym (ids_are s)) (by_kids names id (nodes s) (none_leads id i s b a p))))
      (λ (p : ℕ × ℕ) (h : place_of id s ≡ Some p).
      let n = place_there id s p h in
      let q = in_net s p.0 p.1 n.0 n.1 in
      let led = place_leads id s p n.0 h n.1 in
      let each = subst (Each IsBoxedNode) q.whole (below_every_net AtNet AtNode AtRun s b) in
      let these : AreChildren i (kids q.front ++ ((out-Node n.0).id ∷ kids q.back)) = subst (AreChildren i) (ids_are s ∙ ap kids q.whole ∙ kids-append q.front (n.0 ∷ q.back)) a in
      let off = others_off id i (kids q.front) (out-Node n.0).id (kids q.back) these led in
      let deep = child_length i (out-Node n.0).id (each_mid (IsChild i) (kids q.front) (out-Node n.0).id (kids q.back) these.0) in
      let front = none_of names id q.front (Each-front IsBoxedNode q.front (n.0 ∷ q.back) each) off.0 in
      let back = none_of names id q.back (each_rest IsBoxedNode q.front n.0 q.back each) off.1 in
      let none : item_below (item_in d id) id n.0 ≡ None = sym (found_is d id s p n.0 h n.1) ∙ e in
      ap (λ z. at id z.1) (net_entries_is names s) ∙ ap (λ z. at id (flat ents z)) q.whole ∙ ap (at id) (flat-append names q.front (n.0 ∷ q.back))
      ∙ at_skip id (flat ents q.front) (ents n.0 ++ flat ents q.back) front ∙ at_stop id (ents n.0) (flat ents q.back) back
      ∙ by_test (same (out-Node n.0).id id)
      (λ (t : same (out-Node n.0).id id ≡ true). nowhere (sym none ∙ here_found id n.0 (item_in d id) t))
      (λ (t : same (out-Node n.0).id id ≡ false).
      let room : length id ≤ length (out-Node n.0).id + d = omega arith in
      in_item d (nothing d) n.0 (each_mid IsBoxedNode q.front n.0 q.back each) led room none (λ le.
      let before : length i < length (parent id) = omega arith in
      let its = place_is (parent id) i s b a p n.0 n.1 (leads_above id long (out-Node n.0).id led le) in
      ap (option_and_then (run_of_item id)) (sym (found_is d (parent id) s p n.0 its n.1)) ∙ r before) t))

  -- ---- in a case
  of_case : (c : Case) → IsBoxedCase c → is_case_ident c.id ≡ true → is_case_ident id ≡ false → length id ≤ length c.id + levels → item_of_case id c ≡ None
      → (is_case_ident (parent id) ≡ true → run_of_case id c ≡ None) → (is_case_ident (parent id) ≡ false → option_and_then (run_of_item id) (item_of_case (parent id) c) ≡ None) → at id (case_entries names c) ≡ None
  of_case c b top below l e at_top deeper =
      ap (λ z. cond z (Some (case_site names c)) (find lexical id ((net_entries names c.net).1 ++ below_run names c.run))) (not_tied names id c.id (not_top (same c.id id) refl))
      ∙ by_test (run_leads id c.run)
      (λ (u : run_leads id c.run ≡ true).
      at_skip id (net_entries names c.net).1 (below_run names c.run) (none_net names id c.net b.net (off c.run u b.here))
      ∙ in_run levels (nothing levels) c.id c.run b.run (Each-back (IsChild c.id) (ids c.net) (run_ids c.run) b.here.0) l (ap (λ (z : Bool). option_and_then (item_in levels id) (cond z (net_in_run c.run) (Some c.net))) (sym u) ∙ e) other_run
      (λ lt. ap (λ (z : Bool). option_and_then (run_of_item id) (option_and_then (item_in levels (parent id)) (cond z (net_in_run c.run) (Some c.net)))) (sym (leads_too c.run u (Each-back (IsChild c.id) (ids c.net) (run_ids c.run) b.here.0) lt)) ∙ deeper (longer lt)))
      (λ (u : run_leads id c.run ≡ false).
      at_stop id (net_entries names c.net).1 (below_run names c.run) (none_run names id c.run b.run u)
      ∙ nothing levels c.id c.net b.net (children_front c.id (ids c.net) (run_ids c.run) b.here) l (ap (λ (z : Bool). option_and_then (item_in levels id) (cond z (net_in_run c.run) (Some c.net))) (sym u) ∙ e)
      (λ lt. ap (λ (z : Bool). option_and_then (run_of_item id) (option_and_then (item_in levels (parent id)) (cond z (net_in_run c.run) (Some c.net)))) (sym (leads_not c.run u)) ∙ deeper (longer lt)))
    where
      not_top : (z : Bool) → same c.id id ≡ z → same c.id id ≡ false
      not_top true u = never (sym below ∙ ap is_case_ident (sym (same_true c.id id u)) ∙ top)
      not_top false u = u

      longer : length c.id < length (parent id) → is_case_ident (parent id) ≡ false
      longer lt = false_from_ne_true _ (λ u.
          let one : length (parent id) ≡ 1 = eqb-true (length (parent id)) 1 u in
          let its : length c.id ≡ 1 = eqb-true (length c.id) 1 top in
          absurd (omega arith))

      other_run : has_run id c.run ≡ false
      other_run =
          by_test (is_case_ident (parent id))
          (λ (u : is_case_ident (parent id) ≡ true). not_its_run id c.run (at_top u))
          (λ (u : is_case_ident (parent id) ≡ false). not_it c.run (Each-back (IsChild c.id) (ids c.net) (run_ids c.run) b.here.0) u)
        where
          not_it : (o : Option (Box Run Global)) → Each (IsChild c.id) (run_ids o) → is_case_ident (parent id) ≡ false → has_run id o ≡ false
          not_it None k u = refl
          not_it (Some y) k u = false_from_ne_true _ (λ v.
              let it : (out-Run y.value).id ≡ id = same_true (out-Run y.value).id id v in
              let s : parent id ≡ c.id = parent_of id long c.id (subst (IsChild c.id) it k.0) in
              never (sym u ∙ ap is_case_ident s ∙ top))

      off : (r : Option (Box Run Global)) → run_leads id r ≡ true → AreChildren c.id (ids c.net ++ run_ids r) → Each (λ k. under id k ≡ false) (ids c.net)
      off None u a = never u
      off (Some y) u a = (others_off id c.id (ids c.net) (out-Run y.value).id [] a u).0

      leads_too : (o : Option (Box Run Global)) → run_leads id o ≡ true → Each (IsChild c.id) (run_ids o) → length c.id < length (parent id) → run_leads (parent id) o ≡ true
      leads_too None u k lt = never u
      leads_too (Some y) u k lt =
          let m = child_length c.id (out-Run y.value).id k.0 in
          let fits : length (out-Run y.value).id ≤ length (parent id) = omega arith in
          leads_above id long (out-Run y.value).id u fits

      leads_not : (o : Option (Box Run Global)) → run_leads id o ≡ false → run_leads (parent id) o ≡ false
      leads_not None u = refl
      leads_not (Some y) u = not_true _ (λ v. never (sym u ∙ under_trans id (parent id) (out-Run y.value).id (under_its_parent id long) v))

  -- ---- in the whole forest
  abbrev Well : ℕ × Case → Type 0
  Well e = (e.1.id ≡ case_ident e.0) × IsBoxedCase e.1

  same_number : is_case_ident id ≡ false → case_number (parent id) ≡ case_number id
  same_number t = first id (two t)
    where
      two : is_case_ident id ≡ false → 2 ≤ length id
      two t = let ne : length id ≡ 1 → ⊥ = λ s. never (sym t ∙ eq-eqb (length id) 1 s) in omega arith

      first : (q : Ident) → 2 ≤ length q → case_number (parent q) ≡ case_number q
      first [] l = absurd (omega arith)
      first (x ∷ []) l = absurd (omega arith)
      first (x ∷ y ∷ ys) l = refl

  pub forest_nothing : (f : Forest) → IsForest f → length id ≤ 41 → is_case_ident id ≡ false → item_of f id ≡ None → run_of f id ≡ None → get (sites_of names f) id ≡ None
  forest_nothing f b fits t e r =
      let n = case_number id in
      let within : InCase id = in_case id long in
      get-of_entries by_name (entries names f) id
      ∙ by_option (case_at n f.cases)
      (λ (g : case_at n f.cases ≡ None). at_apart id id (entries names f) (cases_apart names id n within f.cases b.1 (none_at n f.cases g).1) (under_refl id))
      (λ (c : Case) (g : case_at n f.cases ≡ Some c).
      let q = in_table n f.cases c g in
      let each = subst (Each Well) q.whole b.1 in
      let o = others q.front (n, c) q.back (subst (λ z. T (is_sorted nat_cmp z)) q.whole b.0) in
      let front = at_apart id id (all names q.front) (cases_apart names id n within q.front (Each-front Well q.front ((n, c) ∷ q.back) each) o.0) (under_refl id) in
      let back = at_apart id id (all names q.back) (cases_apart names id n within q.back (each_rest Well q.front (n, c) q.back each) o.1) (under_refl id) in
      let mid = each_mid Well q.front (n, c) q.back each in
      let top : is_case_ident c.id ≡ true = ap is_case_ident mid.0 in
      let one : length c.id ≡ 1 = ap length mid.0 in
      let deep : length id ≤ length c.id + levels = (let l = levels_are in omega arith) in
      ap (λ z. at id (all names z)) q.whole ∙ ap (at id) (all-append names q.front ((n, c) ∷ q.back))
      ∙ at_skip id (all names q.front) (case_entries names c ++ all names q.back) front ∙ at_stop id (case_entries names c) (all names q.back) back
      ∙ of_case c mid.1 top t deep (sym (ap (option_and_then (item_of_case id)) g) ∙ e)
      (λ u. ap (option_and_then (run_of_case id)) (sym g) ∙ sym (run_at_case f id t u) ∙ r)
      (λ u.
      let h : case_at (case_number (parent id)) f.cases ≡ Some c = ap (λ k. case_at k f.cases) (same_number t) ∙ g in
      ap (λ z. option_and_then (run_of_item id) (option_and_then (item_of_case (parent id)) z)) (sym h) ∙ sym (run_at_item f id t u) ∙ r))
