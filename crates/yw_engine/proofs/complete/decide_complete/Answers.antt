use Rattle.yw_engine.proofs.Completes.{complete_apart, complete_built, complete_case, complete_leads, complete_plain}
use Rattle.yw_engine.proofs.Fronts.{refuses}
use Rattle.yw_engine.proofs.complete.decide_complete.Goals as goal
use Rattle.yw_state.specs.declared.command.Command.TheVariants as commands

pub begin-requires-clause-built : goal.begin-requires-clause-built
begin-requires-clause-built c =
    complete_built c.args.work.now.standing c.requires.stands c.args.who c.args.item c.args.out.now c.in_ok-event.event c.in_ok-event.ensures

pub begin-requires-clause-case : goal.begin-requires-clause-case
begin-requires-clause-case c =
    complete_case c.args.work.now.standing c.requires.stands c.args.who c.args.item c.args.out.now c.in_ok-event.event c.in_ok-event.ensures
    c.case_number-case.result c.case_number-case.ensures

pub begin-requires-clause-plain : goal.begin-requires-clause-plain
begin-requires-clause-plain c =
    complete_plain c.args.work.now.standing c.requires.stands c.args.who c.args.item c.args.out.now c.in_ok-event.event c.in_ok-event.ensures

pub begin-requires-clause-apart : goal.begin-requires-clause-apart
begin-requires-clause-apart c =
    complete_apart c.args.work.now.standing c.requires.stands c.args.who c.args.item c.args.out.now c.in_ok-event.event c.in_ok-event.ensures

pub begin-requires-clause-leads : goal.begin-requires-clause-leads
begin-requires-clause-leads c =
    complete_leads c.args.work.now.standing c.requires.stands c.args.who c.args.item c.args.out.now c.in_ok-event.event c.in_ok-event.ensures

pub returns-in_err-event : goal.returns-in_err-event
returns-in_err-event c = refuses c.args.work.now.standing (commands.Complete c.args.who c.args.item c.args.out.now) c.in_err-event.field-0.0 c.in_err-event.ensures c.from_residual.result c.from_residual.ensures.1

pub returns : goal.returns
returns c =
    let made = c.in_ok-event.ensures in
    c.in_ok-begin.ensures (commands.Complete c.args.who c.args.item c.args.out.now) made.0 made.1
