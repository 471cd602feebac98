use Rattle.std.proofs.Common.{◌≡◌, Some, false, true, sym, ap, ◌∙◌}
use Rattle.std.specs.Option.{ghost_name_of}
use Rattle.std.specs.Prelude.{option_and_then}
use Rattle.yw_state.specs.Identity.{is_case_ident}
use Rattle.yw_base.specs.Identity.{case_number, parent}
use Rattle.yw_tree.specs.Cases.{case_at, with_case}
use Rattle.yw_tree.specs.Forest.{item_of, item_replaced}
use Rattle.yw_tree.specs.Places.{case_with_run, item_with_run, over_case_run, over_item_run, run_of_case, run_of_item}
use Rattle.yw_tree.specs.declared.Case.{Case}
use Rattle.yw_tree.specs.declared.Forest.{Forest}
use Rattle.yw_tree.proofs.Parents.{parent_there}
use Rattle.yw_tree.proofs.PutBack.{put_back}
use Rattle.yw_tree.proofs.RunFound.{placed_in_its_case, placed_in_its_item, run_at_case, run_at_item}
use Rattle.yw_tree.proofs.Same.{same_loan}
use Rattle.yw_tree.proofs.SameCase.{same_table}
use Rattle.yw_tree.proofs.parts.run_by.Goals as goal

pub returns-then-is_case-2 : goal.returns-then-is_case-2
returns-then-is_case-2 c =
    let f = c.args.forest.now in
    let id = c.args.id.now in
    let case = c.in_ok-case.case.now in
    let below : is_case_ident id ≡ false = sym c.is_case.ensures ∙ c.if-is_case.false in
    let top : is_case_ident (parent id) ≡ true = ap is_case_ident (sym c.parent-target.ensures) ∙ sym c.is_case-2.ensures ∙ c.if-is_case-2.true in
    let e : case_at (case_number id) f.cases ≡ Some case = ap (λ n. case_at n f.cases) (sym c.case_number.ensures) ∙ sym c.in_ok-case.ensures.value in
    let at_first : (d : Case) → ◌≡◌ {A = Forest} (record { cases = with_case c.case_number.result f.cases d }) (record { cases = with_case (case_number id) f.cases d }) = λ d j. record { cases = with_case (c.case_number.ensures j) f.cases d } in (
      same_loan (ghost_name_of c.run_of_case.result) _ _ _ _
          (λ w. at_first (case_with_run case w) ∙ sym (placed_in_its_case f id w top ∙ ap (over_case_run f (case_number id) w) e))
          (at_first case ∙ (λ j. record { cases = same_table (case_number id) f.cases case e j })),
      record { writes_back = tt; value = c.run_of_case.ensures.value ∙ sym (run_at_case f id below top ∙ ap (option_and_then (run_of_case id)) e) },
    )

pub item_by-requires : goal.item_by-requires
item_by-requires c = rw c.parent-target.ensures (parent_there c.args.id.now c.requires (sym c.is_case.ensures ∙ c.if-is_case.false))

pub returns : goal.returns
returns c =
    let f = c.args.forest.now in
    let id = c.args.id.now in
    let node = c.in_ok-node.node.now in
    let below : is_case_ident id ≡ false = sym c.is_case.ensures ∙ c.if-is_case.false in
    let top : is_case_ident (parent id) ≡ false = ap is_case_ident (sym c.parent-target.ensures) ∙ sym c.is_case-2.ensures ∙ c.if-is_case-2.false in
    let e : item_of f (parent id) ≡ Some node = ap (item_of f) (sym c.parent-target.ensures) ∙ sym c.in_ok-node.ensures.value in (
      same_loan (ghost_name_of c.run_of_item.result) _ _ _ _
          (λ w. ap (λ j. item_replaced f j (item_with_run node w)) c.parent-target.ensures ∙ sym (placed_in_its_item f id w top ∙ ap (over_item_run f (parent id) w) e))
          (ap (λ j. item_replaced f j node) c.parent-target.ensures ∙ put_back (parent id) node f e),
      record { writes_back = tt; value = c.run_of_item.ensures.value ∙ sym (run_at_item f id below top ∙ ap (option_and_then (run_of_item id)) e) },
    )
