use Rattle.std.proofs.Common.{take, ◌≡◌}
use Rattle.std.specs.List.{filter_map}
use Rattle.yw_task.proofs.made.texts.Given as goal
use Rattle.yw_task.specs.Making.{text_by}

abbrev pub invariant-loop-node : goal.invariant-loop-node
invariant-loop-node l = l.texts ≡ filter_map (text_by l.k) (take l.node-index l.nodes)
