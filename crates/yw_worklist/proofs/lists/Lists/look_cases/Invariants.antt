use Rattle.std.proofs.Common.{take}
use Rattle.yw_worklist.proofs.lists.Lists.look_cases.Given as goal
use Rattle.yw_worklist.specs.Lists.{Looks, StandsIn}

abbrev pub invariant-loop-n : goal.invariant-loop-n
invariant-loop-n l = Looks l.known l.forest l.fn.self l.self (StandsIn (take l.n-index l.cases))
