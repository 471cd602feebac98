-- Whether something stands at an identity, by the steps that take it away: the same as what is found there.
use Rattle.std.proofs.Common.{List, None, Option, Some, [], ap, arith, cond, false, length, refl, subst, sym, true, ℕ, ⊎_elim, ◌++◌, ◌∙◌, ◌∷◌, ◌≡◌, ◌≤◌}
use Rattle.std.specs.FinMap.Entries.{find}
use Rattle.std.specs.Prelude.{Box, is_some, option_and_then, option_map, ◌||◌}
use Rattle.std.specs.declared.alloc.Global.{Global}
use Rattle.yw_base.specs.Identity.{under, case_number, parent}
use Rattle.yw_sites.proofs.Children.{children_front}
use Rattle.yw_sites.proofs.Each.{each_mid}
use Rattle.yw_sites.proofs.Prefix.{child_length, child_strictly, child_under, is_child_of, not_true, same_true, under_refl, under_same}
use Rattle.yw_sites.proofs.Swaps.{at, at_apart, at_skip, old_at}
use Rattle.yw_sites.specs.Entries.{NoneUnder}
use Rattle.yw_sites.specs.Idents.{AreChildren, Each, IsChild}
use Rattle.yw_state.proofs.MapEntries.{get-of_entries}
use Rattle.yw_state.proofs.MapLemmas.{by_name}
use Rattle.yw_state.proofs.Tests.{by_option, by_test, never, nowhere}
use Rattle.yw_state.specs.Identity.{Ident, is_case_ident, same}
use Rattle.yw_state.specs.Map.{get, lexical}
use Rattle.yw_tree.proofs.Absent.{by_kids, none_net, not_tied}
use Rattle.yw_tree.proofs.Beside.{run_beside}
use Rattle.yw_tree.proofs.Equations.{node_entries_is, run_entries_is}
use Rattle.yw_tree.proofs.FindLaw.{find_is, item_shown}
use Rattle.yw_tree.proofs.ForestLaw.{in_case, item_found, placed_law}
use Rattle.yw_tree.proofs.Halves.{none_leads}
use Rattle.yw_tree.proofs.Induct.{below_every_node}
use Rattle.yw_tree.proofs.Keys.{ids_are, kids, kids-append}
use Rattle.yw_tree.proofs.NetAt.{net_here}
use Rattle.yw_tree.proofs.NetHere.{NetHere}
use Rattle.yw_tree.proofs.Nothing.{forest_nothing}
use Rattle.yw_tree.proofs.Parents.{parent_child, parent_there}
use Rattle.yw_tree.proofs.Rooted.{forest_rooted}
use Rattle.yw_tree.proofs.RunLaw.{run_found, run_placed}
use Rattle.yw_tree.proofs.Split.{in_net, place_leads, place_there}
use Rattle.yw_tree.proofs.Stand.{found_before, items_known}
use Rattle.yw_tree.specs.Boxed.{AtNet, AtNode, AtRun, ids, net_ids, run_ids}
use Rattle.yw_tree.specs.Cases.{case_at}
use Rattle.yw_tree.specs.Entries.{below_net, below_run, item_site, net_entries, nodes, run_entries, run_site}
use Rattle.yw_tree.specs.Forest.{IsForest, entries, item_of, sites_of, top_of}
use Rattle.yw_tree.specs.Places.{item_stands, net_at, net_of_run, placed_net, placed_run, run_of, something_stands}
use Rattle.yw_tree.specs.Spots.{a_case, item_or_run, part_at, part_site}
use Rattle.yw_tree.specs.Ways.{net_in, net_of_item, place_of}
use Rattle.yw_tree.specs.declared.Case.{Case}
use Rattle.yw_tree.specs.declared.Forest.{Forest}
use Rattle.yw_tree.specs.declared.NetState.{NetState}
use Rattle.yw_tree.specs.declared.Node.{Node, every_here-Node, out-Node}
use Rattle.yw_tree.specs.declared.Run.{Run, out-Run}

-- a child is longer than what it lies under
not_its_child : (i id : Ident) → IsChild i id → same i id ≡ false
not_its_child i id c = not_true (same i id) (λ s. let l = child_length i id c in let e : length i ≡ length id = ap length (same_true i id s) in absurd (omega arith))

no_net_below : (names : ℕ → List ℕ) (o : Option (Box NetState Global)) → net_in o ≡ None → below_net names o ≡ []
no_net_below names None e = refl
no_net_below names (Some x) e = nowhere (sym e)

map_there : {A B : Type 0} (f : A → B) (o : Option A) → is_some (option_map f o) ≡ is_some o
map_there f None = refl
map_there f (Some x) = refl

module _ (f : Forest) (b : IsForest f) (id : Ident) (long : 1 ≤ length id) where
  -- ---- an item at an identity stands in the net at the identity without its last number
  module _ (names : ℕ → List ℕ) (below : is_case_ident id ≡ false) (n : Node) (e : item_of f id ≡ Some n) where
    its : IsChild (parent id) id
    its = parent_child id long

    there : get (sites_of names f) id ≡ Some (item_site names n)
    there = item_shown names f b id long n e

    above : 1 ≤ length (parent id)
    above = parent_there id long below

    not_in_item : (x : Node) → item_of f (parent id) ≡ Some x → net_in (out-Node x).net ≡ None → ⊥
    not_in_item x h hollow =
        let i = parent id in
        let g = item_found f i x b h in
        let p = placed_law names f i x x b (in_case i above) h refl g.1 in
        let l = out-Node x in
        let children : AreChildren i (net_ids l.net ++ run_ids l.run) = subst (λ z. AreChildren z (net_ids l.net ++ run_ids l.run)) g.0 (every_here-Node AtNet AtNode AtRun x g.1) in
        let nothing : List Ident = [] in
        let hung : AreChildren i (nothing ++ run_ids l.run) = no_items l.net hollow children in
        let rest : get (sites_of names f) id ≡ find lexical id (below_run names l.run) =
        p.stood id (child_under i id its) ∙ ap (find lexical id) (node_entries_is names x)
        ∙ ap (λ z. cond z (Some (item_site names x)) (find lexical id (below_net names l.net ++ below_run names l.run))) (not_tied names id l.id (ap (λ z. same z id) g.0 ∙ not_its_child i id its))
        ∙ ap (λ z. find lexical id (z ++ below_run names l.run)) (no_net_below names l.net hollow) in
        let stands = run_beside names i l.run nothing (below_every_node AtNet AtNode AtRun x g.1).1 hung in
        nowhere (sym (stands.quiet id (item_site names n) (is_child_of id i its) (sym rest ∙ there)))
      where
        no_items : (o : Option (Box NetState Global)) → net_in o ≡ None → AreChildren (parent id) (net_ids o ++ run_ids (out-Node x).run) → AreChildren (parent id) (run_ids (out-Node x).run)
        no_items None e c = c
        no_items (Some y) e c = nowhere (sym e)

    not_in_run : (r : Run) → run_of f (parent id) ≡ Some r → net_in (out-Run r).net ≡ None → ⊥
    not_in_run r h hollow =
        let i = parent id in
        let g = run_found f i r b h in
        let p = run_placed names f b i above r r h refl g.1 in
        nowhere (sym (
        get-of_entries by_name (entries names f) id
        ∙ old_at i (run_entries names r) (run_entries names r) (entries names f) (entries names (placed_run f i r)) p.0 id (child_under i id its)
        ∙ ap (find lexical id) (run_entries_is names r)
        ∙ ap (λ z. cond z (Some (run_site names r)) (find lexical id (below_net names (out-Run r).net))) (not_tied names id (out-Run r).id (ap (λ z. same z id) g.0 ∙ not_its_child i id its))
        ∙ ap (find lexical id) (no_net_below names (out-Run r).net hollow)) ∙ there)

    -- something stands above it
    stands_above : is_some (get (sites_of names f) (parent id)) ≡ true
    stands_above =
        let i = parent id in
        ⊎_elim
        (λ (h : is_some (find lexical i (entries names f)) ≡ true). ap is_some (get-of_entries by_name (entries names f) i) ∙ h)
        (λ (h : NoneUnder i (entries names f)). nowhere (sym (at_apart id i (entries names f) h (child_under i id its)) ∙ sym (get-of_entries by_name (entries names f) id) ∙ there))
        (forest_rooted names i f b above)

    pub net_above : length id ≤ 41 → net_at f (parent id) ≡ None → ⊥
    net_above fits hollow =
        let i = parent id in
        let l = child_length i id its in
        let short : length i ≤ 41 = omega arith in
        by_test (is_case_ident i)
        (λ (t : is_case_ident i ≡ true).
        let top : top_of f (case_number i) ≡ None = sym (ap (λ u. cond u (top_of f (case_number i)) (cond (is_some (item_of f i)) (net_of_item (item_of f i)) (net_of_run (run_of f i)))) t) ∙ hollow in
        let found : is_some (part_at f i) ≡ is_some (case_at (case_number i) f.cases) =
        ap (λ u. is_some (cond u (option_map a_case (case_at (case_number i) f.cases)) (item_or_run (item_of f i) (run_of f i)))) t ∙ map_there a_case (case_at (case_number i) f.cases) in
        let none : is_some (case_at (case_number i) f.cases) ≡ false = sym (map_there (λ (c : Case). c.net) (case_at (case_number i) f.cases)) ∙ ap is_some top in
        never (sym none ∙ sym found ∙ sym (map_there (part_site names) (part_at f i)) ∙ sym (ap is_some (find_is names f b i above short)) ∙ stands_above))
        (λ (t : is_case_ident i ≡ false).
        let rest : cond (is_some (item_of f i)) (net_of_item (item_of f i)) (net_of_run (run_of f i)) ≡ None =
        sym (ap (λ u. cond u (top_of f (case_number i)) (cond (is_some (item_of f i)) (net_of_item (item_of f i)) (net_of_run (run_of f i)))) t) ∙ hollow in
        by_option (item_of f i)
        (λ (h : item_of f i ≡ None).
        by_option (run_of f i)
        (λ (g : run_of f i ≡ None). never (sym (ap is_some (forest_nothing names i above f b short t h g)) ∙ stands_above))
        (λ (r : Run) (g : run_of f i ≡ Some r). not_in_run r g (sym (ap net_of_run g) ∙ sym (ap (λ z. cond (is_some z) (net_of_item z) (net_of_run (run_of f i))) h) ∙ rest)))
        (λ (x : Node) (h : item_of f i ≡ Some x). not_in_item x h (sym (ap (λ z. cond (is_some z) (net_of_item z) (net_of_run (run_of f i))) h) ∙ rest)))

    -- and in that net its place is found
    module _ (s : NetState) (h : NetHere f (parent id) s (placed_net f (parent id))) where
      pub place_there_too : place_of id s ≡ None → ⊥
      place_there_too p =
          let i = parent id in
          let c = is_child_of id i its in
          let off = by_kids names id (nodes s) (none_leads id i s h.boxed (children_front i (ids s) h.others h.here) p) in
          let none : at id (net_entries names s).1 ≡ None = none_net names id s h.boxed (subst (Each (λ k. under id k ≡ false)) (sym (ids_are s)) off) in
          let shown : find lexical id (h.beside names) ≡ Some (item_site names n) =
          sym (at_skip id (net_entries names s).1 (h.beside names) none) ∙ sym ((h.shows names).below id (child_strictly id i c)) ∙ there in
          nowhere (sym ((h.stands names).quiet id (item_site names n) c shown))

  -- ---- the item at a place that leads to an identity has that identity
  module _ (names : ℕ → List ℕ) (s : NetState) (h : NetHere f (parent id) s (placed_net f (parent id))) (p : ℕ × ℕ) (e : place_of id s ≡ Some p) where
    stands_there : is_some (get (sites_of names f) id) ≡ true
    stands_there =
        let i = parent id in
        let c = parent_child id long in
        let x = place_there id s p e in
        let r = in_net s p.0 p.1 x.0 x.1 in
        let split : ids s ≡ kids r.front ++ ((out-Node x.0).id ∷ kids r.back) = ids_are s ∙ ap kids r.whole ∙ kids-append r.front (x.0 ∷ r.back) in
        let cx = each_mid (IsChild i) (kids r.front) (out-Node x.0).id (kids r.back) (subst (Each (IsChild i)) split (children_front i (ids s) h.others h.here).0) in
        let it : id ≡ (out-Node x.0).id = under_same id id (out-Node x.0).id (child_length i id c ∙ sym (child_length i (out-Node x.0).id cx)) (under_refl id) (place_leads id s p x.0 e x.1) in
        let known = each_mid (λ j. is_some (find lexical j (net_entries names s).1) ≡ true) (kids r.front) (out-Node x.0).id (kids r.back)
        (subst (Each (λ j. is_some (find lexical j (net_entries names s).1) ≡ true)) split (items_known names s)) in
        ap is_some ((h.shows names).below id (child_strictly id i (is_child_of id i c)))
        ∙ found_before id (net_entries names s).1 (h.beside names) (ap (λ z. is_some (find lexical z (net_entries names s).1)) it ∙ known)

  -- ---- both
  some_item : (below : is_case_ident id ≡ false) → length id ≤ 41 → run_of f id ≡ None → is_some (item_stands f id) ≡ is_some (item_of f id)
  some_item below fits no_run =
      let names : ℕ → List ℕ = λ k. [] in
      by_option (net_at f (parent id))
      (λ (g : net_at f (parent id) ≡ None).
      ap (λ z. is_some (option_and_then (place_of id) z)) g
      ∙ by_option (item_of f id)
      (λ (e : item_of f id ≡ None). sym (ap is_some e))
      (λ (n : Node) (e : item_of f id ≡ Some n). absurd (net_above names below n e fits g)))
      (λ (s : NetState) (g : net_at f (parent id) ≡ Some s).
      let h = net_here f (parent id) s b (parent_there id long below) g in
      ap (λ z. is_some (option_and_then (place_of id) z)) g
      ∙ by_option (place_of id s)
      (λ (p : place_of id s ≡ None).
      ap is_some p
      ∙ by_option (item_of f id)
      (λ (e : item_of f id ≡ None). sym (ap is_some e))
      (λ (n : Node) (e : item_of f id ≡ Some n). absurd (place_there_too names below n e s h p)))
      (λ (q : ℕ × ℕ) (p : place_of id s ≡ Some q).
      ap is_some p
      ∙ by_option (item_of f id)
      (λ (e : item_of f id ≡ None). never (sym (ap is_some (forest_nothing names id long f b fits below e no_run)) ∙ stands_there names s h q p))
      (λ (n : Node) (e : item_of f id ≡ Some n). sym (ap is_some e))))

  pub something_found : length id ≤ 41 → something_stands f id ≡ is_some (part_at f id)
  something_found fits =
      by_test (is_case_ident id)
      (λ (t : is_case_ident id ≡ true).
      ap (λ u. cond u (is_some (case_at (case_number id) f.cases)) (is_some (run_of f id) || is_some (item_stands f id))) t
      ∙ sym (ap (λ u. is_some (cond u (option_map a_case (case_at (case_number id) f.cases)) (item_or_run (item_of f id) (run_of f id)))) t ∙ map_there a_case (case_at (case_number id) f.cases)))
      (λ (t : is_case_ident id ≡ false).
      ap (λ u. cond u (is_some (case_at (case_number id) f.cases)) (is_some (run_of f id) || is_some (item_stands f id))) t
      ∙ by_option (run_of f id)
      (λ (g : run_of f id ≡ None).
      ap (λ z. is_some z || is_some (item_stands f id)) g ∙ some_item t fits g ∙ sym (ap (λ z. is_some (item_or_run (item_of f id) z)) g ∙ no_run (item_of f id)))
      (λ (r : Run) (g : run_of f id ≡ Some r).
      ap (λ z. is_some z || is_some (item_stands f id)) g ∙ sym (ap (λ z. is_some (item_or_run (item_of f id) z)) g ∙ a_run_there (item_of f id) r))
      ∙ sym (ap (λ u. is_some (cond u (option_map a_case (case_at (case_number id) f.cases)) (item_or_run (item_of f id) (run_of f id)))) t))
    where
      no_run : (o : Option Node) → is_some (item_or_run o None) ≡ is_some o
      no_run None = refl
      no_run (Some n) = refl

      a_run_there : (o : Option Node) (r : Run) → is_some (item_or_run o (Some r)) ≡ true
      a_run_there None r = refl
      a_run_there (Some n) r = refl

  -- the map has something exactly where something is found
  pub found_in_map : (names : ℕ → List ℕ) → length id ≤ 41 → is_some (part_at f id) ≡ is_some (get (sites_of names f) id)
  found_in_map names fits = sym (ap is_some (find_is names f b id long fits) ∙ map_there (part_site names) (part_at f id))
