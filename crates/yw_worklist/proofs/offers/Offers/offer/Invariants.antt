use Rattle.std.proofs.Common.{take}
use Rattle.yw_worklist.proofs.offers.Offers.offer.Given as goal
use Rattle.yw_worklist.specs.Offers.{Turns, came}

abbrev pub invariant-loop-work : goal.invariant-loop-work
invariant-loop-work l = Turns l.fn.self l.self l.at (came l.before (take l.work-index l.after))
