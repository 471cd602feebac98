use Rattle.std.proofs.Common.{sym, ◌∙◌}
use Rattle.yw_open.proofs.Enters.{as_asked, by_itself}
use Rattle.yw_open.proofs.tasks.person_may_enter.Goals as goal

pub returns-then-not-is_manual : goal.returns-then-not-is_manual
returns-then-not-is_manual c =
    by_itself c.args.net.now c.args.state.now c.args.t c.args.chosen c.task_at.result.now c.task_at.ensures
    (sym c.is_manual.ensures ∙ c.if-not-is_manual.true)

pub returns : goal.returns
returns c =
    as_asked c.args.net.now c.args.state.now c.args.t c.args.chosen c.task_at.result.now c.task_at.ensures
    (sym c.is_manual.ensures ∙ c.if-not-is_manual.false) c.ask_enter.result c.ask_enter.ensures.first c.is_none.result c.is_none.ensures
