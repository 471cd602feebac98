use Rattle.yw_engine.proofs.Commands.{launch_built, launch_case, launch_leads}
use Rattle.yw_engine.proofs.Fronts.{refuses}
use Rattle.yw_engine.proofs.launch.decide_launch.Goals as goal
use Rattle.yw_state.specs.declared.command.Command.TheVariants as commands

pub begin_numbered-requires-clause-built : goal.begin_numbered-requires-clause-built
begin_numbered-requires-clause-built c =
    launch_built c.args.work.now.standing c.requires c.args.spec.now c.args.given.now c.in_ok-asked.asked.event c.in_ok-asked.ensures.0

pub begin_numbered-requires-clause-case : goal.begin_numbered-requires-clause-case
begin_numbered-requires-clause-case c =
    launch_case c.args.work.now.standing c.requires c.args.spec.now c.args.given.now c.in_ok-asked.asked.event c.in_ok-asked.ensures.0
    c.next-next.result c.next-next.ensures

pub begin_numbered-requires-clause-leads : goal.begin_numbered-requires-clause-leads
begin_numbered-requires-clause-leads c =
    launch_leads c.args.work.now.standing c.requires c.args.spec.now c.args.given.now c.in_ok-asked.asked.event c.in_ok-asked.ensures.0

pub begin_numbered-requires-clause-numbered : goal.begin_numbered-requires-clause-numbered
begin_numbered-requires-clause-numbered c = c.in_ok-asked.ensures.1

pub returns-in_err-asked : goal.returns-in_err-asked
returns-in_err-asked c =
    refuses c.args.work.now.standing (commands.Launch c.args.spec.now c.args.given.now) c.in_err-asked.field-0.0 c.in_err-asked.ensures
    c.from_residual.result c.from_residual.ensures.1

pub returns : goal.returns
returns c =
    let made = c.in_ok-asked.ensures.0 in
    c.in_ok-begin_numbered.ensures (commands.Launch c.args.spec.now c.args.given.now) made.0 made.1
