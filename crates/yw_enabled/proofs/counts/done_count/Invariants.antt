use Rattle.std.proofs.Common.{take, ◌≡◌}
use Rattle.std.specs.Prelude.{count_by}
use Rattle.yw_enabled.proofs.counts.done_count.Given as goal
use Rattle.yw_enabled.specs.Left.{is_done}

abbrev pub invariant-loop-node : goal.invariant-loop-node
invariant-loop-node l = l.done ≡ count_by is_done (take l.node-index l.nodes)
