use Rattle.yw_engine.proofs.Entries.{enter_apart, enter_asked, enter_built, enter_case, enter_computed, enter_leads}
use Rattle.yw_engine.proofs.Fronts.{refuses}
use Rattle.yw_engine.proofs.enter.decide_enter.Goals as goal
use Rattle.yw_state.specs.declared.command.Command.TheVariants as commands

pub begin_found-requires-clause-built : goal.begin_found-requires-clause-built
begin_found-requires-clause-built c =
    enter_built c.args.work.now.standing c.args.net.now c.args.task.now c.in_ok-found.found c.in_ok-found.ensures.1

pub begin_found-requires-clause-case : goal.begin_found-requires-clause-case
begin_found-requires-clause-case c =
    enter_case c.args.work.now.standing c.args.net.now c.args.task.now c.in_ok-found.found c.in_ok-found.ensures.1 c.case_number.result c.case_number.ensures

pub begin_found-requires-clause-apart : goal.begin_found-requires-clause-apart
begin_found-requires-clause-apart c =
    enter_apart c.args.work.now.standing c.args.net.now c.args.task.now c.in_ok-found.found c.in_ok-found.ensures.1

pub begin_found-requires-clause-leads : goal.begin_found-requires-clause-leads
begin_found-requires-clause-leads c =
    enter_leads c.args.work.now.standing c.args.net.now c.args.task.now c.in_ok-found.found c.in_ok-found.ensures.1

pub begin_found-requires-clause-computed : goal.begin_found-requires-clause-computed
begin_found-requires-clause-computed c =
    enter_computed c.args.work.now.standing c.args.net.now c.args.task.now c.in_ok-found.found c.in_ok-found.ensures.1

pub returns-in_err-found : goal.returns-in_err-found
returns-in_err-found c =
    refuses c.args.work.now.standing (commands.Enter c.args.who.now c.args.net.now c.args.task.now) c.in_err-found.field-0.0 c.in_err-found.ensures
    c.from_residual.result c.from_residual.ensures.1

pub returns : goal.returns
returns c =
    let made = c.in_ok-found.ensures in
    c.in_ok-begin_found.ensures (commands.Enter c.args.who.now c.args.net.now c.args.task.now) made.0
    (enter_asked c.args.work.now.standing c.args.net.now c.args.task.now c.in_ok-found.found made.1 c.args.who.now)
