use Rattle.yw_task.proofs.RoomLaw.{is_made}
use Rattle.yw_task.proofs.room.make_list.Goals as goal

pub give_room-requires : goal.give_room-requires
give_room-requires c = is_made c.args.t c.args.lists.now.items c.add_lists.new.lists.items c.in_ok-add_lists.ensures

pub returns : goal.returns
returns c = record { made = c.add_lists.new.lists.items; behind = c.in_ok-add_lists.ensures; same = c.in_ok-give_room.ensures }
