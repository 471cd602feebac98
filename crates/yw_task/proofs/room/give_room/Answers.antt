use Rattle.yw_task.proofs.RoomLaw.{rows_set}
use Rattle.yw_task.proofs.room.give_room.Goals as goal
use Rattle.yw_tree.proofs.Cleared.{read_row}

pub returns : goal.returns
returns c =
    let vs = c.args.lists.now.items in
    let v = c.index_mut.result.now in
    rows_set vs c.args.t v c.reserve_exact.new.self (read_row vs c.args.t v c.requires c.index_mut.ensures.value) c.reserve_exact.ensures.items
