use Rattle.std.proofs.Common.{◌≡◌, None, Some, false, true, sym, ap, ◌∙◌}
use Rattle.std.specs.Prelude.{option_and_then}
use Rattle.yw_state.specs.Identity.{is_case_ident}
use Rattle.yw_base.specs.Identity.{case_number, parent}
use Rattle.yw_tree.specs.Cases.{case_at}
use Rattle.yw_tree.specs.Forest.{item_of}
use Rattle.yw_tree.specs.Places.{run_of, run_of_case, run_of_item}
use Rattle.yw_tree.proofs.Parents.{parent_there}
use Rattle.yw_tree.proofs.RunFound.{none_at_case, run_at_case, run_at_item}
use Rattle.yw_tree.proofs.find.run_with.Goals as goal

pub returns-then-is_case : goal.returns-then-is_case
returns-then-is_case c = sym (none_at_case c.args.forest.now c.args.id.now (sym c.is_case.ensures ∙ c.if-is_case.true))

pub returns-in_err-case : goal.returns-in_err-case
returns-in_err-case c =
    let f = c.args.forest.now in
    let id = c.args.id.now in
    let below : is_case_ident id ≡ false = sym c.is_case.ensures ∙ c.if-is_case.false in
    let top : is_case_ident (parent id) ≡ true = ap is_case_ident (sym c.parent-target.ensures) ∙ sym c.is_case-2.ensures ∙ c.if-is_case-2.true in
    let e : case_at (case_number id) f.cases ≡ None = ap (λ n. case_at n f.cases) (sym c.case_number.ensures) ∙ sym c.in_err-case.ensures in
    let none : run_of f id ≡ None = run_at_case f id below top ∙ ap (option_and_then (run_of_case id)) e in
    rw (c.from_residual.ensures, none)

pub returns-then-is_case-2 : goal.returns-then-is_case-2
returns-then-is_case-2 c =
    let f = c.args.forest.now in
    let id = c.args.id.now in
    let below : is_case_ident id ≡ false = sym c.is_case.ensures ∙ c.if-is_case.false in
    let top : is_case_ident (parent id) ≡ true = ap is_case_ident (sym c.parent-target.ensures) ∙ sym c.is_case-2.ensures ∙ c.if-is_case-2.true in
    let e : case_at (case_number id) f.cases ≡ Some c.in_ok-case.case.now = ap (λ n. case_at n f.cases) (sym c.case_number.ensures) ∙ sym c.in_ok-case.ensures in
    c.run_here.ensures ∙ sym (run_at_case f id below top ∙ ap (option_and_then (run_of_case id)) e)

pub item_at-requires : goal.item_at-requires
item_at-requires c = rw c.parent-target.ensures (parent_there c.args.id.now c.requires (sym c.is_case.ensures ∙ c.if-is_case.false))

pub returns-in_err-node : goal.returns-in_err-node
returns-in_err-node c =
    let f = c.args.forest.now in
    let id = c.args.id.now in
    let below : is_case_ident id ≡ false = sym c.is_case.ensures ∙ c.if-is_case.false in
    let top : is_case_ident (parent id) ≡ false = ap is_case_ident (sym c.parent-target.ensures) ∙ sym c.is_case-2.ensures ∙ c.if-is_case-2.false in
    let e : item_of f (parent id) ≡ None = ap (item_of f) (sym c.parent-target.ensures) ∙ sym c.in_err-node.ensures in
    let none : run_of f id ≡ None = run_at_item f id below top ∙ ap (option_and_then (run_of_item id)) e in
    rw (c.from_residual-in_err-node.ensures, none)

pub returns : goal.returns
returns c =
    let f = c.args.forest.now in
    let id = c.args.id.now in
    let below : is_case_ident id ≡ false = sym c.is_case.ensures ∙ c.if-is_case.false in
    let top : is_case_ident (parent id) ≡ false = ap is_case_ident (sym c.parent-target.ensures) ∙ sym c.is_case-2.ensures ∙ c.if-is_case-2.false in
    let e : item_of f (parent id) ≡ Some c.in_ok-node.node.now = ap (item_of f) (sym c.parent-target.ensures) ∙ sym c.in_ok-node.ensures in
    c.run_here-2.ensures ∙ sym (run_at_item f id below top ∙ ap (option_and_then (run_of_item id)) e)
