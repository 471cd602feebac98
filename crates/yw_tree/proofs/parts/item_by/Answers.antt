use Rattle.std.proofs.Common.{◌≡◌, None, Some, refl, sym, ap, ◌∙◌, inr}
use Rattle.std.specs.Prelude.{option_and_then}
use Rattle.std.specs.Option.{ghost_name_of}
use Rattle.yw_base.specs.Identity.{case_number}
use Rattle.yw_tree.specs.Cases.{case_at, with_case}
use Rattle.yw_tree.specs.Forest.{item_of, item_of_case, levels, over_case_inner, item_replaced_at}
use Rattle.yw_tree.specs.Ways.{case_inner, item_in, placed_in, with_case_inner}
use Rattle.yw_tree.specs.declared.Case.{Case}
use Rattle.yw_tree.specs.declared.Forest.{Forest}
use Rattle.yw_tree.proofs.Same.{same_loan}
use Rattle.yw_tree.proofs.SameCase.{same_case, same_table}
use Rattle.yw_tree.proofs.parts.item_by.Goals as goal

pub returns-in_err-case : goal.returns-in_err-case
returns-in_err-case c =
    let f = c.args.forest.now in
    let id = c.args.id.now in
    let none : item_of f id ≡ None = ap (option_and_then (item_of_case id)) (ap (λ n. case_at n f.cases) (sym c.case_number.ensures) ∙ sym c.in_err-case.ensures.value) in
    rw (c.from_residual.ensures, none) (refl, record { writes_back = tt; value = refl })

pub returns-in_err-net : goal.returns-in_err-net
returns-in_err-net c =
    let f = c.args.forest.now in
    let id = c.args.id.now in
    let case = c.in_ok-case.case.now in
    let e : case_at (case_number id) f.cases ≡ Some case = ap (λ n. case_at n f.cases) (sym c.case_number.ensures) ∙ sym c.in_ok-case.ensures.value in
    let none : item_of f id ≡ None = ap (option_and_then (item_of_case id)) e ∙ ap (option_and_then (item_in levels id)) (sym c.in_err-net.ensures.value) in
    let kept : ◌≡◌ {A = Forest} (record { cases = with_case (c.case_number.result) f.cases case }) f = (λ j. record { cases = (ap (λ n. with_case n f.cases case) c.case_number.ensures ∙ same_table (case_number id) f.cases case e) j }) in
    rw (c.from_residual-in_err-net.ensures, none) (ap inr kept, record { writes_back = tt; value = refl })

pub returns : goal.returns
returns c =
    let f = c.args.forest.now in
    let id = c.args.id.now in
    let case = c.in_ok-case.case.now in
    let net = c.in_ok-net.net.now in
    let first = c.case_number.ensures in
    let e : case_at (case_number id) f.cases ≡ Some case = ap (λ n. case_at n f.cases) (sym first) ∙ sym c.in_ok-case.ensures.value in
    let into : case_inner id case ≡ Some net = sym c.in_ok-net.ensures.value in
    let at_first : (d : Case) → ◌≡◌ {A = Forest} (record { cases = with_case (c.case_number.result) f.cases d }) (record { cases = with_case (case_number id) f.cases d }) = λ d j. record { cases = with_case (first j) f.cases d } in (
      same_loan (ghost_name_of c.item_within.result) _ _ _ _
          (λ w. at_first (with_case_inner id case (placed_in levels id w net)) ∙ sym (ap (item_replaced_at f id w) e ∙ (λ j. record { cases = with_case (case_number id) f.cases (ap (over_case_inner id w case) into j) })))
          (at_first (with_case_inner id case net) ∙ (λ j. record { cases = (ap (with_case (case_number id) f.cases) (same_case id case net into) ∙ same_table (case_number id) f.cases case e) j })),
      record { writes_back = tt; value = c.item_within.ensures.value ∙ sym (ap (option_and_then (item_of_case id)) e ∙ ap (option_and_then (item_in levels id)) into) },
    )
