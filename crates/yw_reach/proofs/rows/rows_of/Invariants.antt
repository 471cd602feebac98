use Rattle.std.proofs.Common.{take}
use Rattle.yw_reach.specs.Rows.{AreRows}
use Rattle.yw_reach.proofs.rows.rows_of.Given as goal

abbrev pub invariant-loop-flow : goal.invariant-loop-flow
invariant-loop-flow l = AreRows l.count (take l.flow-index l.flows) l.rows.items
