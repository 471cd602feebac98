use Rattle.std.proofs.Common.{Some, subst, sym, ◌≡◌}
use Rattle.yw_exlet.proofs.OwnSite.{CaseBecomes, case_becomes}
use Rattle.yw_exlet.proofs.own.write_at_case.Goals as goal
use Rattle.yw_exlet.specs.Changes.{written}
use Rattle.yw_tree.specs.Cases.{case_at}

pub returns-in-Some-clause-sites : goal.returns-in-Some-clause-sites
returns-in-Some-clause-sites c =
    let f = c.args.forest.now in
    let old = c.in-Some.case.now in
    let e : case_at c.args.n f.cases ≡ Some old = sym (rw c.in-Some.is at c.case_mut.ensures.value) in
    (subst (λ d. CaseBecomes f c.requires.boxed c.args.n old e d (written c.args.own)) (sym c.write_case.ensures) (case_becomes f c.requires.boxed c.args.n old e c.args.own)).0

pub returns-in-Some-clause-boxed : goal.returns-in-Some-clause-boxed
returns-in-Some-clause-boxed c =
    let f = c.args.forest.now in
    let old = c.in-Some.case.now in
    let e : case_at c.args.n f.cases ≡ Some old = sym (rw c.in-Some.is at c.case_mut.ensures.value) in
    (subst (λ d. CaseBecomes f c.requires.boxed c.args.n old e d (written c.args.own)) (sym c.write_case.ensures) (case_becomes f c.requires.boxed c.args.n old e c.args.own)).1
