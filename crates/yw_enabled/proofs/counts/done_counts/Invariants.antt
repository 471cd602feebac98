use Rattle.std.proofs.Common.{map, take, ◌≡◌}
use Rattle.yw_enabled.proofs.DoneCounts.{list_count}
use Rattle.yw_enabled.proofs.counts.done_counts.Given as goal
use Rattle.yw_tree.specs.declared.NetState.{out-NetState}

abbrev pub invariant-loop-nodes : goal.invariant-loop-nodes
invariant-loop-nodes l = l.counts.items ≡ map list_count (take l.nodes-index (out-NetState l.state).items.items)
