use Rattle.std.proofs.Common.{Option, subst}
use Rattle.yw_engine.proofs.Commands.{start_asks}
use Rattle.yw_engine.proofs.start.decide_start.Goals as goal
use Rattle.yw_engine.specs.Decides.{BreaksNow}
use Rattle.yw_state.specs.declared.command.Command.TheVariants as commands
use Rattle.yw_state.specs.declared.rule.Refusal.{Refusal}

pub begin-requires-clause-leads : goal.begin-requires-clause-leads
begin-requires-clause-leads c =
    let h = c.args.work.now.standing in
    let command = commands.Start c.args.who c.args.item in
    (start_asks h c.requires.stands c.args.who c.args.item
    (subst (λ (found : Option Refusal). BreaksNow h command found) c.in_default.is c.start_breaks.ensures)).1

pub returns : goal.returns
returns c =
    let h = c.args.work.now.standing in
    let command = commands.Start c.args.who c.args.item in
    let unbroken = subst (λ (found : Option Refusal). BreaksNow h command found) c.in_default.is c.start_breaks.ensures in
    c.in_ok-begin.ensures command unbroken (start_asks h c.requires.stands c.args.who c.args.item unbroken).0
