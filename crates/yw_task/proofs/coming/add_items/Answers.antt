use Rattle.std.proofs.Common.{subst, sym}
use Rattle.yw_task.proofs.RoomLaw.{has_list, roomy_boxed, roomy_rows}
use Rattle.yw_task.proofs.coming.add_items.Goals as goal
use Rattle.yw_task.specs.Items.{AreBefore}

pub put_items-requires-clause-boxed : goal.put_items-requires-clause-boxed
put_items-requires-clause-boxed c = roomy_boxed c.args.t c.args.state.now c.make_room.new.state c.in_ok-make_room.ensures c.requires.boxed

pub put_items-requires-clause-task_in : goal.put_items-requires-clause-task_in
put_items-requires-clause-task_in c = has_list c.args.t c.args.state.now c.make_room.new.state c.in_ok-make_room.ensures

pub put_items-requires-clause-before : goal.put_items-requires-clause-before
put_items-requires-clause-before c =
    subst (AreBefore c.args.at.now c.args.first) (sym (roomy_rows c.args.t c.args.state.now c.make_room.new.state c.in_ok-make_room.ensures c.args.t)) c.requires.before
