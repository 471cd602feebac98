use Rattle.std.proofs.Common.{length, ◌+◌, ◌-◌}
use Rattle.yw_task.proofs.RoomLaw.{SomeBehind}
use Rattle.yw_task.proofs.room.add_lists.Given as goal

abbrev pub invariant-lists : goal.invariant-lists
invariant-lists l = SomeBehind l.t l.initial.lists.items l.lists.items

abbrev pub decreases-lists : goal.decreases-lists
decreases-lists l = l.t + 1 - length l.lists.items
