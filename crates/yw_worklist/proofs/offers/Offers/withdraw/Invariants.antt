use Rattle.std.proofs.Common.{take}
use Rattle.yw_worklist.proofs.offers.Offers.withdraw.Given as goal
use Rattle.yw_worklist.specs.Offers.{Turns, left}

abbrev pub invariant-loop-work : goal.invariant-loop-work
invariant-loop-work l = Turns l.fn.self l.self l.at (left (take l.work-index l.before) l.after)
