use Rattle.std.proofs.Common.{take}
use Rattle.yw_reach.specs.Search.{Visits}
use Rattle.yw_reach.proofs.search.visit_all.Given as goal

abbrev pub invariant-loop-node : goal.invariant-loop-node
invariant-loop-node l = Visits (take l.node-index l.row) l.fn.search.marks l.fn.search.pending.items l.search.marks l.search.pending.items
