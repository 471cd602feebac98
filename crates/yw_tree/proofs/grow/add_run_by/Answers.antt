use Rattle.std.proofs.Common.{cond, false, subst, sym, true, ◌∙◌, ◌≡◌}
use Rattle.std.specs.Prelude.{IsTrue, is_some}
use Rattle.yw_state.specs.Identity.{is_case_ident}
use Rattle.yw_base.specs.Identity.{case_number}
use Rattle.yw_tree.specs.Cases.{case_at}
use Rattle.yw_tree.specs.Forest.{item_of}
use Rattle.yw_tree.proofs.grow.add_run_by.Goals as goal

pub add_case_run-requires-clause-stands : goal.add_case_run-requires-clause-stands
add_case_run-requires-clause-stands c =
    let f = c.args.forest.now in
    let id = c.args.id.now in
    let top : is_case_ident id ≡ true = sym c.is_case.ensures ∙ c.if-is_case.true in
    subst (λ z. IsTrue (cond z (is_some (case_at (case_number id) f.cases)) (is_some (item_of f id)))) top c.requires.comes.target

pub add_item_run-requires-clause-stands : goal.add_item_run-requires-clause-stands
add_item_run-requires-clause-stands c =
    let f = c.args.forest.now in
    let id = c.args.id.now in
    let below : is_case_ident id ≡ false = sym c.is_case.ensures ∙ c.if-is_case.false in
    subst (λ z. IsTrue (cond z (is_some (case_at (case_number id) f.cases)) (is_some (item_of f id)))) below c.requires.comes.target
