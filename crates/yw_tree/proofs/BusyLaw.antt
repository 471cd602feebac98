-- Whether a run stands directly below an identity, as the definitions ask of all that stands.
use Rattle.std.proofs.Common.{List, None, Option, Some, [], ap, arith, cond, false, length, refl, subst, sym, true, ℕ, ◌++◌, ◌∙◌, ◌∷◌, ◌≡◌, ◌≤◌}
use Rattle.std.proofs.lemmas.Bool.{and_parts, eqb-true, false_from_ne_true}
use Rattle.std.specs.Prelude.{Box, is_some, option_and_then, option_map, ◌&&◌}
use Rattle.std.specs.declared.alloc.Global.{Global}
use Rattle.yw_sites.proofs.Each.{Each-back}
use Rattle.yw_sites.proofs.Prefix.{child_length, child_of, is_child_of, same_refl}
use Rattle.yw_sites.specs.Idents.{AreChildren, IsChild}
use Rattle.yw_state.proofs.Clear.{some_stands}
use Rattle.yw_state.proofs.Entries.{find-entry, passing}
use Rattle.yw_state.proofs.MapLemmas.{by_name}
use Rattle.yw_state.proofs.Tests.{by_option, by_test, never, nowhere}
use Rattle.yw_state.specs.Identity.{Ident, is_case_ident, is_child}
use Rattle.yw_base.specs.Identity.{case_number, parent}
use Rattle.yw_state.specs.Map.{entries, get}
use Rattle.yw_state.specs.State.{RunPart, Site, State}
use Rattle.yw_state.specs.Words.{busy}
use Rattle.yw_tree.proofs.CaseLaw.{its}
use Rattle.yw_tree.proofs.FindLaw.{find_is, run_shown}
use Rattle.yw_tree.proofs.ForestLaw.{item_found}
use Rattle.yw_tree.proofs.NetAt.{case_ident_is}
use Rattle.yw_tree.proofs.RunFound.{run_at_case, run_at_item}
use Rattle.yw_tree.proofs.Shorter.{parent_of}
use Rattle.yw_tree.specs.Boxed.{AtNet, AtNode, AtRun, ids, net_ids, run_ids}
use Rattle.yw_tree.specs.Cases.{case_at}
use Rattle.yw_tree.specs.Entries.{run_site}
use Rattle.yw_tree.specs.Forest.{IsForest, item_of, sites_of}
use Rattle.yw_tree.specs.Places.{hung_at, run_at, run_of, run_of_case, run_of_item}
use Rattle.yw_tree.specs.Spots.{a_case, item_or_run, part_at, part_site}
use Rattle.yw_tree.specs.Ways.{run_in}
use Rattle.yw_tree.specs.declared.Case.{Case}
use Rattle.yw_tree.specs.declared.Forest.{Forest}
use Rattle.yw_tree.specs.declared.Node.{Node, every_here-Node, out-Node}
use Rattle.yw_tree.specs.declared.Run.{Run, out-Run}

-- the run of a site
abbrev pub run_in_site : Option Site → Option RunPart
run_in_site o = option_and_then (λ (x : Site). x.run) o

module _ (f : Forest) (b : IsForest f) (j : Ident) (long : 1 ≤ length j) (short : length j ≤ 40) where
  abbrev at_case : Option (Box Run Global)
  at_case = option_and_then (λ (c : Case). c.run) (case_at (case_number j) f.cases)

  abbrev at_item : Option (Box Run Global)
  at_item = option_and_then (λ (n : Node). (out-Node n).run) (item_of f j)

  -- ---- what hangs there stands directly below, and is found
  of_case : (c : Case) (o : Option (Box Run Global)) → c.run ≡ o → is_case_ident j ≡ true → case_at (case_number j) f.cases ≡ Some c → (y : Box Run Global) → o ≡ Some y → IsChild j (out-Run y.value).id
  of_case c None is t e y h = nowhere h
  of_case c (Some z) is t e y h =
      let i = its (λ k. []) f b (case_number j) c e in
      let back : Option (Box Run Global) = Some y in
      let here : AreChildren c.id (ids c.net ++ run_ids back) = subst (λ u. AreChildren c.id (ids c.net ++ run_ids u)) (is ∙ h) i.1.here in
      subst (λ u. IsChild u (out-Run y.value).id) (i.0 ∙ case_ident_is j t) (Each-back (IsChild c.id) (ids c.net) (run_ids back) here.0).0

  of_item : (n : Node) → item_of f j ≡ Some n → (y : Box Run Global) → (out-Node n).run ≡ Some y → IsChild j (out-Run y.value).id
  of_item n e y h =
      let g = item_found f j n b e in
      let o = out-Node n in
      let back : Option (Box Run Global) = Some y in
      let here : AreChildren o.id (net_ids o.net ++ run_ids back) = subst (λ u. AreChildren o.id (net_ids o.net ++ run_ids u)) h (every_here-Node AtNet AtNode AtRun n g.1) in
      subst (λ u. IsChild u (out-Run y.value).id) g.0 (Each-back (IsChild o.id) (net_ids o.net) (run_ids back) here.0).0

  child_hung : (y : Box Run Global) → hung_at f j ≡ Some y → IsChild j (out-Run y.value).id
  child_hung y h =
      by_test (is_case_ident j)
      (λ (t : is_case_ident j ≡ true).
      let g : at_case ≡ Some y = sym (ap (λ z. cond z at_case at_item) t) ∙ h in
      by_option (case_at (case_number j) f.cases)
      (λ (e : case_at (case_number j) f.cases ≡ None). nowhere (sym (ap (option_and_then (λ (c : Case). c.run)) e) ∙ g))
      (λ (c : Case) (e : case_at (case_number j) f.cases ≡ Some c). of_case c c.run refl t e y (sym (ap (option_and_then (λ (c : Case). c.run)) e) ∙ g)))
      (λ (t : is_case_ident j ≡ false).
      let g : at_item ≡ Some y = sym (ap (λ z. cond z at_case at_item) t) ∙ h in
      by_option (item_of f j)
      (λ (e : item_of f j ≡ None). nowhere (sym (ap (option_and_then (λ (n : Node). (out-Node n).run)) e) ∙ g))
      (λ (n : Node) (e : item_of f j ≡ Some n). of_item n e y (sym (ap (option_and_then (λ (n : Node). (out-Node n).run)) e) ∙ g)))

  -- ---- the run at a child of j is the one that hangs at j, if it has the identity
  not_top : (q : Ident) → IsChild j q → is_case_ident q ≡ false
  not_top q c = false_from_ne_true _ (λ t. let l = child_length j q c in let one : length q ≡ 1 = eqb-true (length q) 1 t in absurd (omega arith))

  run_of_child : (q : Ident) → IsChild j q → run_of f q ≡ run_at q (hung_at f j)
  run_of_child q c =
      let l = child_length j q c in
      let q_long : 1 ≤ length q = omega arith in
      let up : parent q ≡ j = parent_of q q_long j c in
      by_test (is_case_ident (parent q))
      (λ (t : is_case_ident (parent q) ≡ true).
      let top : is_case_ident j ≡ true = ap is_case_ident (sym up) ∙ t in
      let number : case_number q ≡ case_number j = first q j c long in
      run_at_case f q (not_top q c) t ∙ ap (λ k. option_and_then (run_of_case q) (case_at k f.cases)) number
      ∙ hung_case (case_at (case_number j) f.cases) q
      ∙ sym (ap (λ z. run_at q (cond z at_case at_item)) top))
      (λ (t : is_case_ident (parent q) ≡ false).
      let below : is_case_ident j ≡ false = ap is_case_ident (sym up) ∙ t in
      run_at_item f q (not_top q c) t ∙ ap (λ k. option_and_then (run_of_item q) (item_of f k)) up
      ∙ hung_item (item_of f j) q
      ∙ sym (ap (λ z. run_at q (cond z at_case at_item)) below))
    where
      hung_case : (o : Option Case) (q : Ident) → option_and_then (run_of_case q) o ≡ run_at q (option_and_then (λ (c : Case). c.run) o)
      hung_case None q = refl
      hung_case (Some c) q = refl

      hung_item : (o : Option Node) (q : Ident) → option_and_then (run_of_item q) o ≡ run_at q (option_and_then (λ (n : Node). (out-Node n).run) o)
      hung_item None q = refl
      hung_item (Some n) q = refl

      first : (q j : Ident) → IsChild j q → 1 ≤ length j → case_number q ≡ case_number j
      first q [] c h = absurd (omega arith)
      first q (x ∷ xs) c h = ap case_number c.1

  -- ---- the two directions
  module _ (names : ℕ → List ℕ) (s : State) (is : s.sites ≡ sites_of names f) where
    some_run : (y : Box Run Global) → hung_at f j ≡ Some y → busy s j ≡ true
    some_run y h =
        let q = (out-Run y.value).id in
        let c = child_hung y h in
        let l = child_length j q c in
        let q_long : 1 ≤ length q = omega arith in
        let found : run_of f q ≡ Some y.value = run_of_child q c ∙ ap (run_at q) h ∙ ap (λ z. cond z (run_in (Some y)) None) (same_refl q) in
        some_stands s (λ r x. is_some x.run && is_child r j) q (run_site names y.value) (ap (λ m. get m q) is ∙ run_shown names f b q q_long y.value found) (is_child_of q j c)

    site_run : (q : Ident) → IsChild j q → run_of f q ≡ None → run_in_site (get (sites_of names f) q) ≡ None
    site_run q c e =
        let l = child_length j q c in
        let q_long : 1 ≤ length q = omega arith in
        let q_short : length q ≤ 41 = omega arith in
        let part : part_at f q ≡ item_or_run (item_of f q) (run_of f q) = ap (λ z. cond z (option_map a_case (case_at (case_number q) f.cases)) (item_or_run (item_of f q) (run_of f q))) (not_top q c) in
        ap run_in_site (find_is names f b q q_long q_short ∙ ap (option_map (part_site names)) (part ∙ ap (item_or_run (item_of f q)) e)) ∙ no_run (item_of f q)
      where
        no_run : (o : Option Node) → run_in_site (option_map (part_site names) (item_or_run o None)) ≡ None
        no_run None = refl
        no_run (Some n) = refl

    no_run : hung_at f j ≡ None → busy s j ≡ false
    no_run h = false_from_ne_true _ (λ t.
        let e = passing (λ (e : Ident × Site). is_some e.1.run && is_child e.0 j) (entries s.sites) t in
        let q = e.0.0 in
        let stands : get s.sites q ≡ Some e.0.1 = find-entry by_name (entries s.sites) e.0 s.sites.sorted e.1 in
        let p = and_parts (is_some e.0.1.run) (is_child q j) e.2 in
        let c = child_of q j p.1 in
        let none : run_of f q ≡ None = run_of_child q c ∙ ap (run_at q) h in
        let gone : e.0.1.run ≡ None = ap run_in_site (sym stands ∙ ap (λ m. get m q) is) ∙ site_run q c none in
        never (sym (ap is_some gone) ∙ p.0))

    -- a run stands directly below exactly where one hangs
    pub busy_is : busy s j ≡ is_some (hung_at f j)
    busy_is =
        by_option (hung_at f j)
        (λ (h : hung_at f j ≡ None). no_run h ∙ sym (ap is_some h))
        (λ (y : Box Run Global) (h : hung_at f j ≡ Some y). some_run y h ∙ sym (ap is_some h))
