use Rattle.std.proofs.Common.{◌<◌, ℕ}
use Rattle.yw_reach.specs.Marking.{Marked}
use Rattle.yw_check_graph.proofs.children.first_unmarked.Given as goal

abbrev pub invariant-loop-node : goal.invariant-loop-node
invariant-loop-node l = (k : ℕ) → k < l.node → Marked l.marks k
