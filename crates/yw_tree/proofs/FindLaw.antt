-- What is found at an identity is what the map has there.
use Rattle.std.proofs.Common.{List, None, Option, Some, ap, cond, false, length, refl, subst, sym, true, ℕ, ◌∙◌, ◌≡◌, ◌≤◌}
use Rattle.std.specs.FinMap.Entries.{find}
use Rattle.std.specs.Ordering.{eq_by_cmp}
use Rattle.std.specs.Prelude.{option_map}
use Rattle.yw_sites.proofs.Prefix.{under_refl}
use Rattle.yw_sites.proofs.Swaps.{at_apart, old_at}
use Rattle.yw_state.proofs.MapEntries.{get-of_entries}
use Rattle.yw_state.proofs.MapLemmas.{by_name, tied_self}
use Rattle.yw_state.proofs.Tests.{by_option, by_test}
use Rattle.yw_state.specs.Identity.{Ident, is_case_ident}
use Rattle.yw_base.specs.Identity.{case_number}
use Rattle.yw_state.specs.Map.{get, lexical}
use Rattle.yw_tree.proofs.CaseLaw.{case_stands}
use Rattle.yw_tree.proofs.Equations.{run_entries_is}
use Rattle.yw_tree.proofs.ForestLaw.{in_case, item_found, placed_law}
use Rattle.yw_tree.proofs.Lift.{none_at}
use Rattle.yw_tree.proofs.NetAt.{case_ident_is}
use Rattle.yw_tree.proofs.NetLaw.{at_own}
use Rattle.yw_tree.proofs.Nothing.{forest_nothing}
use Rattle.yw_tree.proofs.RunLaw.{run_found, run_placed}
use Rattle.yw_tree.proofs.Table.{cases_apart}
use Rattle.yw_tree.specs.Cases.{case_at}
use Rattle.yw_tree.specs.Entries.{below_net, case_site, item_site, run_entries, run_site}
use Rattle.yw_tree.specs.Forest.{IsForest, entries, item_of, sites_of}
use Rattle.yw_tree.specs.Places.{placed_run, run_of}
use Rattle.yw_tree.specs.Spots.{Part, a_case, a_run, item_or_run, part_at, part_site}
use Rattle.yw_tree.specs.declared.Case.{Case}
use Rattle.yw_tree.specs.declared.Forest.{Forest}
use Rattle.yw_tree.specs.declared.Node.{Node}
use Rattle.yw_tree.specs.declared.Run.{Run, out-Run}

module _ (names : ℕ → List ℕ) (f : Forest) (b : IsForest f) (id : Ident) (long : 1 ≤ length id) where
  pub case_shown : is_case_ident id ≡ true → (c : Case) → case_at (case_number id) f.cases ≡ Some c → get (sites_of names f) id ≡ Some (case_site names c)
  case_shown t c e = subst (λ z. get (sites_of names f) z ≡ Some (case_site names c)) (case_ident_is id t) (case_stands names f b (case_number id) c e)

  no_case : case_at (case_number id) f.cases ≡ None → get (sites_of names f) id ≡ None
  no_case e = get-of_entries by_name (entries names f) id ∙ at_apart id id (entries names f) (cases_apart names id (case_number id) (in_case id long) f.cases b.1 (none_at (case_number id) f.cases e).1) (under_refl id)

  pub item_shown : (n : Node) → item_of f id ≡ Some n → get (sites_of names f) id ≡ Some (item_site names n)
  item_shown n e =
      let g = item_found f id n b e in
      let p = placed_law names f id n n b (in_case id long) e refl g.1 in
      p.stood id (under_refl id) ∙ at_own names id n (sym g.0)

  pub run_shown : (r : Run) → run_of f id ≡ Some r → get (sites_of names f) id ≡ Some (run_site names r)
  run_shown r e =
      let g = run_found f id r b e in
      let p = run_placed names f b id long r r e refl g.1 in
      get-of_entries by_name (entries names f) id
      ∙ old_at id (run_entries names r) (run_entries names r) (entries names f) (entries names (placed_run f id r)) p.0 id (under_refl id)
      ∙ ap (find lexical id) (run_entries_is names r)
      ∙ ap (λ z. cond z (Some (run_site names r)) (find lexical id (below_net names (out-Run r).net))) (ap (eq_by_cmp lexical id) g.0 ∙ tied_self by_name id)

  abbrev of_case : Option Part
  of_case = option_map a_case (case_at (case_number id) f.cases)

  abbrev of_rest : Option Part
  of_rest = item_or_run (item_of f id) (run_of f id)

  abbrev shown : Option Part → Type 0
  shown o = get (sites_of names f) id ≡ option_map (part_site names) o

  at_case : is_case_ident id ≡ true → shown of_case
  at_case t =
      by_option (case_at (case_number id) f.cases)
      (λ (e : case_at (case_number id) f.cases ≡ None). no_case e ∙ sym (ap (λ z. option_map (part_site names) (option_map a_case z)) e))
      (λ (c : Case) (e : case_at (case_number id) f.cases ≡ Some c). case_shown t c e ∙ sym (ap (λ z. option_map (part_site names) (option_map a_case z)) e))

  below_case : length id ≤ 41 → is_case_ident id ≡ false → shown of_rest
  below_case fits t =
      by_option (item_of f id)
      (λ (e : item_of f id ≡ None).
      by_option (run_of f id)
      (λ (g : run_of f id ≡ None).
      let rest : item_or_run (item_of f id) (run_of f id) ≡ None = ap (λ z. item_or_run z (run_of f id)) e ∙ ap (option_map a_run) g in
      forest_nothing names id long f b fits t e g ∙ sym (ap (option_map (part_site names)) rest))
      (λ (r : Run) (g : run_of f id ≡ Some r).
      let rest : item_or_run (item_of f id) (run_of f id) ≡ Some (a_run r) = ap (λ z. item_or_run z (run_of f id)) e ∙ ap (option_map a_run) g in
      run_shown r g ∙ sym (ap (option_map (part_site names)) rest)))
      (λ (n : Node) (e : item_of f id ≡ Some n). item_shown n e ∙ sym (ap (λ z. option_map (part_site names) (item_or_run z (run_of f id))) e))

  -- what is found at an identity, as the map has it
  pub find_is : length id ≤ 41 → get (sites_of names f) id ≡ option_map (part_site names) (part_at f id)
  find_is fits =
      by_test (is_case_ident id)
      (λ (t : is_case_ident id ≡ true). subst (λ z. shown (cond z of_case of_rest)) (sym t) (at_case t))
      (λ (t : is_case_ident id ≡ false). subst (λ z. shown (cond z of_case of_rest)) (sym t) (below_case fits t))
