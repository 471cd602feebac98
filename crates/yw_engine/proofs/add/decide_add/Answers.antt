use Rattle.yw_engine.proofs.Commands.{add_built, add_case, add_leads}
use Rattle.yw_engine.proofs.Fronts.{refuses}
use Rattle.yw_engine.proofs.add.decide_add.Goals as goal
use Rattle.yw_state.specs.declared.command.Command.TheVariants as commands

pub begin_numbered-requires-clause-built : goal.begin_numbered-requires-clause-built
begin_numbered-requires-clause-built c =
    add_built c.args.work.now.standing c.requires.stands c.args.who.now c.args.net c.args.task c.args.value
    c.in_ok-asked.asked.event c.in_ok-asked.ensures.0

pub begin_numbered-requires-clause-case : goal.begin_numbered-requires-clause-case
begin_numbered-requires-clause-case c =
    add_case c.args.work.now.standing c.requires.stands c.args.who.now c.args.net c.args.task c.args.value
    c.in_ok-asked.asked.event c.in_ok-asked.ensures.0
    c.case_number-case.result c.case_number-case.ensures

pub begin_numbered-requires-clause-leads : goal.begin_numbered-requires-clause-leads
begin_numbered-requires-clause-leads c =
    add_leads c.args.work.now.standing c.requires.stands c.args.who.now c.args.net c.args.task c.args.value
    c.in_ok-asked.asked.event c.in_ok-asked.ensures.0

pub begin_numbered-requires-clause-numbered : goal.begin_numbered-requires-clause-numbered
begin_numbered-requires-clause-numbered c = c.in_ok-asked.ensures.1

pub returns-in_err-asked : goal.returns-in_err-asked
returns-in_err-asked c =
    refuses c.args.work.now.standing (commands.Add c.args.who.now c.args.net c.args.task c.args.value) c.in_err-asked.field-0.0 c.in_err-asked.ensures
    c.from_residual.result c.from_residual.ensures.1

pub returns : goal.returns
returns c =
    let made = c.in_ok-asked.ensures.0 in
    c.in_ok-begin_numbered.ensures (commands.Add c.args.who.now c.args.net c.args.task c.args.value) made.0 made.1
