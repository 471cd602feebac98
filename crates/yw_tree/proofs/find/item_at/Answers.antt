use Rattle.std.proofs.Common.{◌≡◌, None, Some, sym, ap, ◌∙◌}
use Rattle.std.specs.Prelude.{option_and_then}
use Rattle.yw_base.specs.Identity.{case_number}
use Rattle.yw_tree.specs.Cases.{case_at}
use Rattle.yw_tree.specs.Forest.{item_of, item_of_case, levels}
use Rattle.yw_tree.specs.Ways.{case_inner, item_in}
use Rattle.yw_tree.proofs.find.item_at.Goals as goal

pub returns-in_err-case : goal.returns-in_err-case
returns-in_err-case c =
    let f = c.args.forest.now in
    let id = c.args.id.now in
    let none : item_of f id ≡ None = ap (option_and_then (item_of_case id)) (ap (λ n. case_at n f.cases) (sym c.case_number.ensures) ∙ sym c.in_err-case.ensures) in
    rw (c.from_residual.ensures, none)

pub returns-in_err-net : goal.returns-in_err-net
returns-in_err-net c =
    let f = c.args.forest.now in
    let id = c.args.id.now in
    let case = c.in_ok-case.case.now in
    let e : case_at (case_number id) f.cases ≡ Some case = ap (λ n. case_at n f.cases) (sym c.case_number.ensures) ∙ sym c.in_ok-case.ensures in
    let none : item_of f id ≡ None = ap (option_and_then (item_of_case id)) e ∙ ap (option_and_then (item_in levels id)) (sym c.in_err-net.ensures) in
    rw (c.from_residual-in_err-net.ensures, none)

pub returns : goal.returns
returns c =
    let f = c.args.forest.now in
    let id = c.args.id.now in
    let case = c.in_ok-case.case.now in
    let net = c.in_ok-net.net.now in
    let e : case_at (case_number id) f.cases ≡ Some case = ap (λ n. case_at n f.cases) (sym c.case_number.ensures) ∙ sym c.in_ok-case.ensures in
    let into : case_inner id case ≡ Some net = sym c.in_ok-net.ensures in
    c.item_below.ensures ∙ sym (ap (option_and_then (item_of_case id)) e ∙ ap (option_and_then (item_in levels id)) into)
