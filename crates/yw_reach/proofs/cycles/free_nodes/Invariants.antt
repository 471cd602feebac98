use Rattle.yw_reach.proofs.TrimmingLemmas.{AreFreeBelow}
use Rattle.yw_reach.proofs.cycles.free_nodes.Given as goal

abbrev pub invariant-loop-node : goal.invariant-loop-node
invariant-loop-node l = AreFreeBelow l.incoming l.node l.free.items
