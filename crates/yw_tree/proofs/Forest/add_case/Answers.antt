use Rattle.std.proofs.Common.{◌≡◌, None, sym, ap, subst, ◌∙◌}
use Rattle.yw_state.specs.Identity.{case_ident}
use Rattle.yw_base.specs.Identity.{case_number}
use Rattle.yw_tree.specs.Cases.{case_at}
use Rattle.yw_tree.specs.Forest.{IsForest}
use Rattle.yw_tree.specs.declared.Forest.{Forest}
use Rattle.yw_tree.proofs.CaseGained.{alone_gained, case_gained, gained_boxed}
use Rattle.yw_tree.proofs.NetAt.{case_ident_is}
use Rattle.yw_tree.proofs.OnResults.{either_ok, on_ok}
use Rattle.yw_tree.proofs.Forest.add_case.Goals as goal

pub returns-clause-ok : goal.returns-clause-ok
returns-clause-ok c =
    let f = c.args.self.now in
    let case = c.args.case in
    let n = c.case_number-number.result in
    let g : Forest = record { cases = c.insert.new.self } in
    let number : n ≡ case_number case.id = c.case_number-number.ensures ∙ ap case_number c.numbers.ensures.numbers in
    let at : case.id ≡ case_ident n = sym (ap case_ident number ∙ case_ident_is case.id c.requires.alone) in
    let fresh : case_at n f.cases ≡ None = ap (λ k. case_at k f.cases) number ∙ c.requires.fresh in
    on_ok c.insert.result _ _ c.insert.ensures.ok (λ is names. case_gained f g n case c.requires.boxed c.requires.well at fresh is names)

pub returns-clause-begins : goal.returns-clause-begins
returns-clause-begins c =
    let f = c.args.self.now in
    let case = c.args.case in
    let n = c.case_number-number.result in
    let g : Forest = record { cases = c.insert.new.self } in
    let number : n ≡ case_number case.id = c.case_number-number.ensures ∙ ap case_number c.numbers.ensures.numbers in
    let at : case.id ≡ case_ident n = sym (ap case_ident number ∙ case_ident_is case.id c.requires.alone) in
    let fresh : case_at n f.cases ≡ None = ap (λ k. case_at k f.cases) number ∙ c.requires.fresh in
    on_ok c.insert.result _ _ c.insert.ensures.ok (λ is no_item no_run names. alone_gained f g n case c.requires.boxed c.requires.well at fresh is names no_item no_run)

pub returns-clause-kept : goal.returns-clause-kept
returns-clause-kept c =
    let f = c.args.self.now in
    let case = c.args.case in
    let n = c.case_number-number.result in
    let g : Forest = record { cases = c.insert.new.self } in
    let number : n ≡ case_number case.id = c.case_number-number.ensures ∙ ap case_number c.numbers.ensures.numbers in
    let at : case.id ≡ case_ident n = sym (ap case_ident number ∙ case_ident_is case.id c.requires.alone) in
    let fresh : case_at n f.cases ≡ None = ap (λ k. case_at k f.cases) number ∙ c.requires.fresh in
    either_ok c.insert.result _ _ (IsForest g) c.insert.ensures.ok c.insert.ensures.err
    (λ is. gained_boxed f g n case c.requires.boxed c.requires.well at fresh is)
    (λ same. let back : ◌≡◌ {A = Forest} g f = λ j. record { cases = same j } in subst IsForest (sym back) c.requires.boxed)
