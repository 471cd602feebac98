use Rattle.yw_task.proofs.TurnLaw.{Level, own_boxed}
use Rattle.yw_task.proofs.exits.produce.Goals as goal
use Rattle.yw_tree.specs.declared.NetState.{out-NetState, out-roll-NetState, roll-NetState}

pub returns-clause-boxed : goal.returns-clause-boxed
returns-clause-boxed c =
    let l : Level = record (out-NetState c.args.state.now) { marks = c.put_each.new.marks } in
    own_boxed c.args.state.now (roll-NetState l) c.put_each.new.marks (out-NetState c.args.state.now).vals (out-roll-NetState l)
