use Rattle.std.proofs.Common.{◌≡◌, false, take}
use Rattle.yw_work.specs.Holds.{held_on}
use Rattle.yw_worklist.proofs.lists.Lists.is_held.Given as goal
use Rattle.yw_worklist.specs.Fronts.{has_front}

abbrev pub invariant-loop-k : goal.invariant-loop-k
invariant-loop-k l = l.held ≡ held_on (has_front l.self.marks) (has_front l.self.runs) false (take l.k l.numbers)
