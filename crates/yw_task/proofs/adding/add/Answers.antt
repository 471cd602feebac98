use Rattle.std.proofs.Common.{None, Option, Some, subst, sym, ◌≡◌}
use Rattle.yw_state.specs.declared.rule.Refusal.{Refusal}
use Rattle.yw_state.specs.declared.rule.Rule.{Rule}
use Rattle.yw_task.proofs.AddLaw.{adds}
use Rattle.yw_task.proofs.AddTable.{add_breaks}
use Rattle.yw_task.proofs.EnterTable.{answers_as, is_fault}
use Rattle.yw_task.proofs.adding.add.Goals as goal
use Rattle.yw_task.specs.Adds.{AddBreaks, room_rule, value_fault}
use Rattle.yw_task.specs.Completes.{AnswersFirst, or_else}
use Rattle.yw_tree.specs.declared.NetState.{out-NetState}

pub returns-in-Some-clause-breaks : goal.returns-in-Some-clause-breaks
returns-in-Some-clause-breaks c =
    let net = c.args.net.now in
    let s = c.args.state.now in
    let u = c.task_at-task.result.now in
    let Q : Option Refusal → Type 0 = AddBreaks net s c.args.t c.args.value c.args.n in
    let later = value_fault u (out-NetState s).vals c.args.value c.args.n in
    let found : Some c.in-Some.rule ≡ room_rule s u c.args.t = c.in-Some.ensures in
    subst (λ r. Q (Some r)) (sym c.placeless.ensures)
    (subst (λ (o : Option Rule). Q (or_else later o)) (sym found) (add_breaks net s c.args.t u c.task_at-task.ensures c.args.value c.args.n))

pub returns-in_err-given-clause-breaks : goal.returns-in_err-given-clause-breaks
returns-in_err-given-clause-breaks c =
    let net = c.args.net.now in
    let s = c.args.state.now in
    let u = c.task_at-task.result.now in
    let fault = c.in_err-given.field-0.0 in
    let Q : Option Refusal → Type 0 = AddBreaks net s c.args.t c.args.value c.args.n in
    let later = value_fault u (out-NetState s).vals c.args.value c.args.n in
    let none : None ≡ room_rule s u c.args.t = c.in_default.ensures in
    let whole : Q later = subst (λ (o : Option Rule). Q (or_else later o)) (sym none) (add_breaks net s c.args.t u c.task_at-task.ensures c.args.value c.args.n) in
    subst (λ r. AnswersFirst Q r) (sym (is_fault c.from_residual.result fault c.from_residual.ensures.1))
    (answers_as (λ found. found ≡ later) Q (λ found e. subst Q (sym e) whole) fault c.in_err-given.ensures.breaks)

pub returns-clause-ok : goal.returns-clause-ok
returns-clause-ok c =
    let s = c.args.state.now in
    adds c.args.net.now s c.come_row.new.state c.args.at.now c.args.t c.task_at-task.result.now c.task_at-task.ensures c.args.value c.args.n c.args.due c.in_ok-given.given
    c.requires.boxed c.in_ok-given.ensures.gives c.in_ok-come_row.ensures

pub returns-clause-breaks : goal.returns-clause-breaks
returns-clause-breaks c =
    let net = c.args.net.now in
    let s = c.args.state.now in
    let u = c.task_at-task.result.now in
    let Q : Option Refusal → Type 0 = AddBreaks net s c.args.t c.args.value c.args.n in
    let later = value_fault u (out-NetState s).vals c.args.value c.args.n in
    let none : None ≡ room_rule s u c.args.t = c.in_default.ensures in
    let whole : Q later = subst (λ (o : Option Rule). Q (or_else later o)) (sym none) (add_breaks net s c.args.t u c.task_at-task.ensures c.args.value c.args.n) in
    subst Q (sym c.in_ok-given.ensures.breaks) whole
