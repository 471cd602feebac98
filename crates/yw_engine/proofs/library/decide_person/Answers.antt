use Rattle.yw_engine.proofs.Commands.{person_asks, person_unbroken}
use Rattle.yw_engine.proofs.library.decide_person.Goals as goal
use Rattle.yw_state.specs.declared.command.Command.TheVariants as commands

pub begin-requires-clause-leads : goal.begin-requires-clause-leads
begin-requires-clause-leads c = (person_asks c.args.work.now.standing c.args.name c.args.roles c.requires.roles).1

pub returns : goal.returns
returns c =
    let h = c.args.work.now.standing in
    c.in_ok-begin.ensures (commands.Person c.args.name c.args.roles) (person_unbroken h c.args.name c.args.roles)
    (person_asks h c.args.name c.args.roles c.requires.roles).0
