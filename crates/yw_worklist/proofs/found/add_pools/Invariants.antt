use Rattle.std.proofs.Common.{take}
use Rattle.yw_idents.specs.Idents.{lent}
use Rattle.yw_worklist.proofs.Gathering.{InSome}
use Rattle.yw_worklist.proofs.found.add_pools.Given as goal
use Rattle.yw_worklist.specs.Offers.{Gains}

abbrev pub invariant-loop-by : goal.invariant-loop-by
invariant-loop-by l = Gains (lent l.fn.ids.keys) (lent l.ids.keys) (InSome l.pools.map (take l.by-index l.names))
