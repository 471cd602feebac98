use Rattle.std.proofs.Common.{Option, Some, ap, sym, subst, ◌∙◌}
use Rattle.std.specs.Prelude.{IfSome, find, is_some}
use Rattle.std.specs.List.{list_any}
use Rattle.yw_mark.proofs.JoinLemmas.{or_answer, xor_chooses, xor_has}
use Rattle.yw_mark.proofs.join.choice.Goals as goal
use Rattle.yw_mark.specs.Taking.{Chooses, HasTokens}
use Rattle.yw_mark.specs.Tokens.{is_marked}
use Rattle.yw_mark.specs.declared.join.Taken.{Taken}

pub returns-in_err-first_marked-in-Xor-clause-has : goal.returns-in_err-first_marked-in-Xor-clause-has
returns-in_err-first_marked-in-Xor-clause-has c =
    let has : HasTokens c.args.marks.now c.args.task.now (is_some c.first_marked.result) =
    xor_has c.args.marks.now c.args.task.now c.first_marked.result c.in-Xor.is
    (c.first_marked.ensures ∙ ap (find (is_marked c.args.marks.now)) c.as_slice-before.ensures) in
    λ s i marks. has s i marks ∙ ap is_some c.in_err-first_marked-in-Xor.was ∙ ap is_some (sym c.from_residual.ensures)

pub returns-in_ok-first_marked-in-Xor-clause-chooses : goal.returns-in_ok-first_marked-in-Xor-clause-chooses
returns-in_ok-first_marked-in-Xor-clause-chooses c =
    xor_chooses c.args.marks.now c.args.task.now c.in_ok-first_marked-in-Xor.field-0 c.in-Xor.is
    (ap (find (is_marked c.args.marks.now)) (sym c.as_slice-before.ensures) ∙ sym c.in_ok-first_marked-in-Xor.ensures)

pub returns-in_ok-first_marked-in-Xor-clause-has : goal.returns-in_ok-first_marked-in-Xor-clause-has
returns-in_ok-first_marked-in-Xor-clause-has c =
    xor_has c.args.marks.now c.args.task.now (Some c.in_ok-first_marked-in-Xor.field-0) c.in-Xor.is
    (c.in_ok-first_marked-in-Xor.ensures ∙ ap (find (is_marked c.args.marks.now)) c.as_slice-before.ensures)

pub returns-in-Or-clause-chooses : goal.returns-in-Or-clause-chooses
returns-in-Or-clause-chooses c =
    let P : Option Taken → Type 0 = λ r. IfSome r (Chooses c.args.marks.now c.args.task.now) in
    subst P (sym c.then_some-in-Or.ensures)
    (or_answer c.args.marks.now c.args.task.now c.is_any_marked.result c.in-Or.is (c.is_any_marked.ensures ∙ ap (list_any (is_marked c.args.marks.now)) c.as_slice-before.ensures))
