use Rattle.std.proofs.Common.{List, None, Option, Some, ap, arith, length, refl, subst, sym, ◌+◌, ◌∙◌, ◌≡◌, ◌≤◌}
use Rattle.yw_base.specs.Identity.{number_end}
use Rattle.yw_spec.specs.declared.task.Task.{Task}
use Rattle.yw_state.proofs.Tests.{some_same}
use Rattle.yw_state.specs.Values.{Row}
use Rattle.yw_state.specs.declared.rule.Refusal.{Refusal}
use Rattle.yw_task.proofs.EnterTable.{answers_as, choice_breaks, enter_breaks, is_fault}
use Rattle.yw_task.proofs.entering.enter.Goals as goal
use Rattle.yw_task.specs.Completes.{AnswersFirst}
use Rattle.yw_task.specs.Enters.{Chooses, EnterBreaks, Enters}
use Rattle.yw_task.specs.Giving.{entry_fault, entry_rows}
use Rattle.yw_tree.specs.declared.NetState.{out-NetState}

pub returns-in-Some-clause-breaks : goal.returns-in-Some-clause-breaks
returns-in-Some-clause-breaks c =
    subst (λ r. EnterBreaks c.args.net.now c.args.state.now c.args.t c.args.taken c.args.first (Some r)) (sym c.placeless.ensures)
    (choice_breaks c.args.net.now c.args.state.now c.args.t c.args.taken c.args.first c.in-Some.rule c.in-Some.ensures.shows)

pub returns-in_err-rows-clause-breaks : goal.returns-in_err-rows-clause-breaks
returns-in_err-rows-clause-breaks c =
    let net = c.args.net.now in
    let s = c.args.state.now in
    let fault = c.in_err-rows.field-0.0 in
    let u = c.task_at.result.now in
    let Q : Option Refusal → Type 0 = EnterBreaks net s c.args.t c.args.taken c.args.first in
    let later = entry_fault u (out-NetState s).vals c.args.first in
    let shows : Chooses net s c.args.t c.args.taken None = c.in_default.ensures.shows in
    subst (λ r. AnswersFirst Q r) (sym (is_fault c.from_residual.result fault c.from_residual.ensures.1))
    (answers_as (λ found. found ≡ later) Q (λ found e. subst Q (sym e) (enter_breaks net s c.args.t c.args.taken c.args.first u c.task_at.ensures None shows)) fault c.in_err-rows.ensures.breaks)

pub overflow_cast-count : goal.overflow_cast-count
overflow_cast-count c =
    let few = c.in_ok-rows.ensures.few in
    let counted = c.len-count.ensures ∙ c.in_ok-rows.rows.ok.0 in
    omega (arith, few, counted)

pub come-requires-clause-may : goal.come-requires-clause-may
come-requires-clause-may c =
    record {
      task = c.task_at.result.now;
      of_net = c.task_at.ensures;
      idle = c.in_default.ensures.idle refl;
      numbers = subst (λ (rows : List Row). c.args.first + length rows ≤ number_end) c.in_ok-rows.ensures.rows c.in_ok-rows.ensures.room;
    }

pub come-requires-clause-rows : goal.come-requires-clause-rows
come-requires-clause-rows c = λ task at.
    c.in_ok-rows.ensures.rows ∙ ap (λ (u : Task). entry_rows u (out-NetState c.args.state.now).vals) (some_same c.task_at.result.now task (sym c.task_at.ensures ∙ at))

pub returns-clause-ok : goal.returns-clause-ok
returns-clause-ok c =
    subst (Enters c.args.net.now c.args.state.now c.args.at.now c.args.t c.args.taken c.args.first c.args.due c.come.new.state) (sym (c.len-count.ensures ∙ c.in_ok-rows.rows.ok.0)) c.in_ok-come.ensures

pub returns-clause-breaks : goal.returns-clause-breaks
returns-clause-breaks c =
    let net = c.args.net.now in
    let s = c.args.state.now in
    let shows : Chooses net s c.args.t c.args.taken None = c.in_default.ensures.shows in
    subst (EnterBreaks net s c.args.t c.args.taken c.args.first) (sym c.in_ok-rows.ensures.breaks)
    (enter_breaks net s c.args.t c.args.taken c.args.first c.task_at.result.now c.task_at.ensures None shows)
