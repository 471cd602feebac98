use Rattle.std.proofs.Common.{take}
use Rattle.yw_worklist.proofs.names.ordered_names.Given as goal
use Rattle.yw_worklist.specs.Names.{AreNames}

abbrev pub invariant-loop-loaded : goal.invariant-loop-loaded
invariant-loop-loaded l = AreNames (take l.loaded-index l.specs) l.names.entries
