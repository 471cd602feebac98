use Rattle.std.proofs.Common.{ℕ, ◌<◌, Contains}
use Rattle.yw_reach.specs.Marking.{Marked}
use Rattle.yw_reach.proofs.search.marked_nodes.Given as goal

abbrev pub invariant-loop-node : goal.invariant-loop-node
invariant-loop-node l = record {
  to : (k : ℕ) → Contains l.nodes.items k → Marked l.marks k;
  from : (k : ℕ) → k < l.node → Marked l.marks k → Contains l.nodes.items k;
}
