use Rattle.std.proofs.Common.{◌≡◌, ℕ, List, [], None, Some, true, false, subst, sym, ap, ◌∙◌}
use Rattle.std.specs.Prelude.{option_and_then}
use Rattle.yw_sites.proofs.OnTests.{of_false, of_true, on_false, on_true}
use Rattle.yw_base.specs.Identity.{case_number}
use Rattle.yw_state.proofs.Tests.{by_test}
use Rattle.yw_tree.specs.Cases.{case_at, with_case}
use Rattle.yw_tree.specs.Forest.{IsForest, sites_of}
use Rattle.yw_tree.specs.Places.{placed_case, run_of_case}
use Rattle.yw_tree.specs.declared.Forest.{Forest}
use Rattle.yw_tree.proofs.RunBack.{hung_there}
use Rattle.yw_tree.proofs.RunCut.{run_cut_from_case}
use Rattle.yw_tree.proofs.SameCase.{same_table}
use Rattle.yw_tree.proofs.cut.cut_run_of_case.Goals as goal

pub returns-in-Some-clause-sites : goal.returns-in-Some-clause-sites
returns-in-Some-clause-sites c = λ same. on_true c.end_run_of_case.result _ (λ t names.
    let f = c.args.forest.now in
    let id = c.args.id.now in
    let case = c.in-Some.case.now in
    let e : case_at (case_number id) f.cases ≡ Some case = ap (λ n. case_at n f.cases) (sym c.case_number.ensures) ∙ sym (rw c.in-Some.is at c.get_mut.ensures.value) in
    let r = hung_there id case.run (sym c.end_run_of_case.ensures.stood ∙ t) in
    let gone : c.end_run_of_case.new.case ≡ record case { run = None } = of_true c.end_run_of_case.result _ c.end_run_of_case.ensures.gone t in
    let now : ◌≡◌ {A = Forest} (record { cases = with_case c.case_number.result f.cases c.end_run_of_case.new.case }) (placed_case f (case_number id) (record case { run = None })) = λ j. record { cases = with_case (c.case_number.ensures j) f.cases (gone j) } in
    ap (sites_of names) now ∙ (run_cut_from_case names f c.requires.boxed id r.0 (same ∙ ap (option_and_then (run_of_case id)) e ∙ r.1) case e r.1).0)

pub returns-in-Some-clause-kept : goal.returns-in-Some-clause-kept
returns-in-Some-clause-kept c = λ same.
    let f = c.args.forest.now in
    let id = c.args.id.now in
    let case = c.in-Some.case.now in
    let names : ℕ → List ℕ = λ k. [] in
    let e : case_at (case_number id) f.cases ≡ Some case = ap (λ n. case_at n f.cases) (sym c.case_number.ensures) ∙ sym (rw c.in-Some.is at c.get_mut.ensures.value) in
    by_test c.end_run_of_case.result
    (λ (t : c.end_run_of_case.result ≡ true).
    let r = hung_there id case.run (sym c.end_run_of_case.ensures.stood ∙ t) in
    let gone : c.end_run_of_case.new.case ≡ record case { run = None } = of_true c.end_run_of_case.result _ c.end_run_of_case.ensures.gone t in
    let now : ◌≡◌ {A = Forest} (record { cases = with_case c.case_number.result f.cases c.end_run_of_case.new.case }) (placed_case f (case_number id) (record case { run = None })) = λ j. record { cases = with_case (c.case_number.ensures j) f.cases (gone j) } in
    subst IsForest (sym now) (run_cut_from_case names f c.requires.boxed id r.0 (same ∙ ap (option_and_then (run_of_case id)) e ∙ r.1) case e r.1).1)
    (λ (t : c.end_run_of_case.result ≡ false).
    let stays : c.end_run_of_case.new.case ≡ case = of_false c.end_run_of_case.result _ c.end_run_of_case.ensures.stays t in
    let now : ◌≡◌ {A = Forest} (record { cases = with_case c.case_number.result f.cases c.end_run_of_case.new.case }) f = (λ j. record { cases = with_case (c.case_number.ensures j) f.cases (stays j) }) ∙ (λ j. record { cases = same_table (case_number id) f.cases case e j }) in
    subst IsForest (sym now) c.requires.boxed)

pub returns-in-Some-clause-stays : goal.returns-in-Some-clause-stays
returns-in-Some-clause-stays c = on_false c.end_run_of_case.result _ (λ t.
    let f = c.args.forest.now in
    let id = c.args.id.now in
    let case = c.in-Some.case.now in
    let e : case_at (case_number id) f.cases ≡ Some case = ap (λ n. case_at n f.cases) (sym c.case_number.ensures) ∙ sym (rw c.in-Some.is at c.get_mut.ensures.value) in
    let stays : c.end_run_of_case.new.case ≡ case = of_false c.end_run_of_case.result _ c.end_run_of_case.ensures.stays t in
    (λ j. record { cases = with_case (c.case_number.ensures j) f.cases (stays j) }) ∙ (λ j. record { cases = same_table (case_number id) f.cases case e j }))
