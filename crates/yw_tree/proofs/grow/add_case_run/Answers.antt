use Rattle.std.proofs.Common.{◌≡◌, [], Some, ap, subst, sym, ◌∙◌}
use Rattle.yw_base.specs.Identity.{case_number}
use Rattle.yw_tree.specs.Becomes.{Gets}
use Rattle.yw_tree.specs.Cases.{case_at, with_case}
use Rattle.yw_tree.specs.Entries.{run_site}
use Rattle.yw_tree.specs.Forest.{IsForest}
use Rattle.yw_tree.specs.Places.{placed_case}
use Rattle.yw_tree.specs.declared.Forest.{Forest}
use Rattle.yw_tree.specs.declared.Run.{out-Run}
use Rattle.yw_tree.proofs.NetAt.{case_ident_is}
use Rattle.yw_tree.proofs.Parents.{identity_short}
use Rattle.yw_tree.proofs.RunComes.{case_idle, run_comes_to_case}
use Rattle.yw_tree.proofs.grow.add_case_run.Goals as goal

pub returns-in-Some-clause-sites : goal.returns-in-Some-clause-sites
returns-in-Some-clause-sites c =
    let f = c.args.forest.now in
    let id = c.args.id.now in
    let case = c.in-Some.case.now in
    let run = c.args.run in
    let m = c.requires.comes in
    let e : case_at (case_number id) f.cases ≡ Some case = ap (λ n. case_at n f.cases) (sym c.case_number.ensures) ∙ sym (rw c.in-Some.is at c.get_mut.ensures.value) in
    let now : ◌≡◌ {A = Forest} (record { cases = with_case c.case_number.result f.cases c.set_case_run.new.case }) (placed_case f (case_number id) (record case { run = Some run })) = λ j. record { cases = with_case (c.case_number.ensures j) f.cases (c.set_case_run.ensures j) } in
    subst (λ z. Gets f z (out-Run run.value).id (λ names. run_site names run.value)) (sym now) (λ names.
    (run_comes_to_case f c.requires.boxed id (identity_short id c.requires.identity) run m.child m.vacant m.without_net (case_number id) case e (case_ident_is id c.requires.top) (case_idle f id case c.requires.top e m.idle) names).0)

pub returns-in-Some-clause-kept : goal.returns-in-Some-clause-kept
returns-in-Some-clause-kept c =
    let f = c.args.forest.now in
    let id = c.args.id.now in
    let case = c.in-Some.case.now in
    let run = c.args.run in
    let m = c.requires.comes in
    let e : case_at (case_number id) f.cases ≡ Some case = ap (λ n. case_at n f.cases) (sym c.case_number.ensures) ∙ sym (rw c.in-Some.is at c.get_mut.ensures.value) in
    let now : ◌≡◌ {A = Forest} (record { cases = with_case c.case_number.result f.cases c.set_case_run.new.case }) (placed_case f (case_number id) (record case { run = Some run })) = λ j. record { cases = with_case (c.case_number.ensures j) f.cases (c.set_case_run.ensures j) } in
    subst IsForest (sym now)
    (run_comes_to_case f c.requires.boxed id (identity_short id c.requires.identity) run m.child m.vacant m.without_net (case_number id) case e (case_ident_is id c.requires.top) (case_idle f id case c.requires.top e m.idle) (λ k. [])).1
