-- Where no item is found at an identity, what the forest means has none there; and where one is found, it has that one.
use Rattle.std.proofs.Common.{Bool, List, None, Option, Some, [], ap, arith, cond, false, length, refl, subst, sym, true, ℕ, ◌++◌, ◌+◌, ◌∙◌, ◌∷◌, ◌≡◌, ◌≤◌}
use Rattle.std.specs.FinMap.Entries.{find, is_sorted}
use Rattle.std.specs.Ordering.{eq_by_cmp, nat_cmp}
use Rattle.std.specs.Prelude.{Box, T, option_and_then, option_map}
use Rattle.std.specs.declared.alloc.Global.{Global}
use Rattle.yw_base.specs.Identity.{under, case_number}
use Rattle.yw_sites.proofs.Children.{children_front, others_off}
use Rattle.yw_sites.proofs.Each.{Each-back, Each-front, each_mid, each_rest}
use Rattle.yw_sites.proofs.Prefix.{under_refl}
use Rattle.yw_sites.proofs.Swaps.{at_apart, at_skip, at_stop}
use Rattle.yw_sites.specs.Idents.{AreChildren, Each, IsChild}
use Rattle.yw_state.proofs.MapEntries.{get-of_entries}
use Rattle.yw_state.proofs.MapLemmas.{by_name}
use Rattle.yw_state.proofs.Tests.{by_option, by_test, never}
use Rattle.yw_state.specs.Identity.{Ident, case_ident, same}
use Rattle.yw_state.specs.Map.{get, lexical}
use Rattle.yw_state.specs.State.{Site}
use Rattle.yw_tree.proofs.Absent.{absent, in_run, item_there, none_net, none_run, not_tied}
use Rattle.yw_tree.proofs.ForestLaw.{InCase, item_found, placed_law}
use Rattle.yw_tree.proofs.Lift.{none_at}
use Rattle.yw_tree.proofs.NetLaw.{at_own}
use Rattle.yw_tree.proofs.Steps.{levels_are}
use Rattle.yw_tree.proofs.Table.{all, all-append, cases_apart, in_table, others}
use Rattle.yw_tree.specs.Boxed.{IsBoxedCase, ids, run_ids}
use Rattle.yw_tree.specs.Cases.{case_at}
use Rattle.yw_tree.specs.Entries.{below_run, case_entries, case_site, item_part_of, net_entries}
use Rattle.yw_tree.specs.Forest.{IsForest, entries, item_of, item_of_case, levels, sites_of}
use Rattle.yw_tree.specs.Ways.{item_in, net_in_run, run_leads}
use Rattle.yw_tree.specs.declared.Case.{Case}
use Rattle.yw_tree.specs.declared.Forest.{Forest}
use Rattle.yw_tree.specs.declared.Node.{Node}
use Rattle.yw_tree.specs.declared.Run.{Run, out-Run}

module _ (names : ℕ → List ℕ) (id : Ident) where
  of_case : (c : Case) → IsBoxedCase c → length id ≤ length c.id + levels → item_of_case id c ≡ None → item_there names id (case_entries names c) ≡ None
  of_case c b l e =
      let rest = (net_entries names c.net).1 ++ below_run names c.run in
      by_test (same c.id id)
      (λ (t : same c.id id ≡ true).
      by_test (eq_by_cmp lexical id c.id)
      (λ (u : eq_by_cmp lexical id c.id ≡ true). ap (λ b. option_and_then (λ (x : Site). x.item) (cond b (Some (case_site names c)) (find lexical id rest))) u)
      (λ (u : eq_by_cmp lexical id c.id ≡ false). ap (λ b. option_and_then (λ (x : Site). x.item) (cond b (Some (case_site names c)) (find lexical id rest))) u ∙ inside c b l e))
      (λ (t : same c.id id ≡ false). ap (λ b. option_and_then (λ (x : Site). x.item) (cond b (Some (case_site names c)) (find lexical id rest))) (not_tied names id c.id t) ∙ inside c b l e)
    where
      inside : (c : Case) → IsBoxedCase c → length id ≤ length c.id + levels → item_of_case id c ≡ None → item_there names id ((net_entries names c.net).1 ++ below_run names c.run) ≡ None
      inside c b l e =
          by_test (run_leads id c.run)
          (λ (u : run_leads id c.run ≡ true).
          ap (option_and_then (λ (x : Site). x.item)) (at_skip id (net_entries names c.net).1 (below_run names c.run) (none_net names id c.net b.net (off c.run u b.here)))
          ∙ in_run names id levels (absent names id levels) c.id c.run b.run (Each-back (IsChild c.id) (ids c.net) (run_ids c.run) b.here.0) (omega arith) (ap (λ (z : Bool). option_and_then (item_in levels id) (cond z (net_in_run c.run) (Some c.net))) (sym u) ∙ e))
          (λ (u : run_leads id c.run ≡ false).
          ap (option_and_then (λ (x : Site). x.item)) (at_stop id (net_entries names c.net).1 (below_run names c.run) (none_run names id c.run b.run u))
          ∙ absent names id levels c.id c.net b.net (children_front c.id (ids c.net) (run_ids c.run) b.here) l (ap (λ (z : Bool). option_and_then (item_in levels id) (cond z (net_in_run c.run) (Some c.net))) (sym u) ∙ e))
        where
          off : (r : Option (Box Run Global)) → run_leads id r ≡ true → AreChildren c.id (ids c.net ++ run_ids r) → Each (λ k. under id k ≡ false) (ids c.net)
          off None u a = never u
          off (Some y) u a = (others_off id c.id (ids c.net) (out-Run y.value).id [] a u).0

  abbrev Well : ℕ × Case → Type 0
  Well e = (e.1.id ≡ case_ident e.0) × IsBoxedCase e.1

  pub forest_absent : (f : Forest) → IsForest f → InCase id → length id ≤ 40 → item_of f id ≡ None → option_and_then (λ (x : Site). x.item) (get (sites_of names f) id) ≡ None
  forest_absent f b within short e =
      let n = case_number id in
      ap (option_and_then (λ (x : Site). x.item)) (get-of_entries by_name (entries names f) id)
      ∙ by_option (case_at n f.cases)
      (λ (g : case_at n f.cases ≡ None).
      ap (option_and_then (λ (x : Site). x.item)) (at_apart id id (entries names f) (cases_apart names id n within f.cases b.1 (none_at n f.cases g).1) (under_refl id)))
      (λ (c : Case) (g : case_at n f.cases ≡ Some c).
      let r = in_table n f.cases c g in
      let each = subst (Each Well) r.whole b.1 in
      let o = others r.front (n, c) r.back (subst (λ z. T (is_sorted nat_cmp z)) r.whole b.0) in
      let front = at_apart id id (all names r.front) (cases_apart names id n within r.front (Each-front Well r.front ((n, c) ∷ r.back) each) o.0) (under_refl id) in
      let back = at_apart id id (all names r.back) (cases_apart names id n within r.back (each_rest Well r.front (n, c) r.back each) o.1) (under_refl id) in
      let deep : length id ≤ length c.id + levels = (let l = levels_are in omega arith) in
      ap (λ z. item_there names id (all names z)) r.whole ∙ ap (item_there names id) (all-append names r.front ((n, c) ∷ r.back))
      ∙ ap (option_and_then (λ (x : Site). x.item)) (at_skip id (all names r.front) (case_entries names c ++ all names r.back) front ∙ at_stop id (case_entries names c) (all names r.back) back)
      ∙ of_case c (each_mid Well r.front (n, c) r.back each).1 deep (sym (ap (option_and_then (item_of_case id)) g) ∙ e))

  -- the item that is found is the one that the definitions have
  pub item_is : (f : Forest) → IsForest f → InCase id → length id ≤ 40 → option_and_then (λ (x : Site). x.item) (get (sites_of names f) id) ≡ option_map item_part_of (item_of f id)
  item_is f b within short =
      by_option (item_of f id)
      (λ (e : item_of f id ≡ None). forest_absent f b within short e ∙ sym (ap (option_map item_part_of) e))
      (λ (n : Node) (e : item_of f id ≡ Some n).
      let g = item_found f id n b e in
      let p = placed_law names f id n n b within e refl g.1 in
      ap (option_and_then (λ (x : Site). x.item)) (p.stood id (under_refl id) ∙ at_own names id n (sym g.0)) ∙ sym (ap (option_map item_part_of) e))
