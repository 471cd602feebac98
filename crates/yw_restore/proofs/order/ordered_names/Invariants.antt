use Rattle.std.proofs.Common.{map, take}
use Rattle.yw_restore.proofs.order.ordered_names.Given as goal
use Rattle.yw_restore.specs.Names.{AreNames}

abbrev pub invariant-loop-thing : goal.invariant-loop-thing
invariant-loop-thing g l = AreNames (map g.T.Named.named (take l.thing-index l.things)) l.names.entries
