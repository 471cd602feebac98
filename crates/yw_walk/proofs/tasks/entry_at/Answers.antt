use Rattle.std.proofs.Common.{subst}
use Rattle.yw_enabled.specs.Entered.{EntersFirst}
use Rattle.yw_walk.proofs.Entering.{finds_entered, finds_none_entered}
use Rattle.yw_walk.proofs.tasks.entry_at.Goals as goal

pub entry_of-requires-clause-task : goal.entry_of-requires-clause-task
entry_of-requires-clause-task c =
    let first = subst (EntersFirst c.args.here.now.net.now c.args.here.now.state.now c.args.next c.args.chosen.now) c.in-Some.is c.in_ok-t.ensures in
    first.below

pub entry_of-requires-clause-gives : goal.entry_of-requires-clause-gives
entry_of-requires-clause-gives c =
    let first = subst (EntersFirst c.args.here.now.net.now c.args.here.now.state.now c.args.next c.args.chosen.now) c.in-Some.is c.in_ok-t.ensures in
    first.comes.entering.gives

pub returns-in_ok-entry_of-in-Some : goal.returns-in_ok-entry_of-in-Some
returns-in_ok-entry_of-in-Some c =
    finds_entered c.args.here.now c.args.at.now c.args.next c.args.chosen.now c.in-Some.t c.in-Some.entering
    c.in_ok-entry_of-in-Some.field-0
    (subst (EntersFirst c.args.here.now.net.now c.args.here.now.state.now c.args.next c.args.chosen.now) c.in-Some.is c.in_ok-t.ensures)
    c.in_ok-entry_of-in-Some.ensures

pub returns-in-None : goal.returns-in-None
returns-in-None c =
    finds_none_entered c.args.here.now c.args.at.now c.args.next c.args.chosen.now
    (subst (EntersFirst c.args.here.now.net.now c.args.here.now.state.now c.args.next c.args.chosen.now) c.in-None.is c.in_ok-t.ensures)
