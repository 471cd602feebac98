use Rattle.std.proofs.Common.{drop, ◌≡◌}
use Rattle.std.specs.Prelude.{slice_get}
use Rattle.yw_task.proofs.made.first_made.Given as goal
use Rattle.yw_task.specs.Making.{column}

abbrev pub invariant-loop-node : goal.invariant-loop-node
invariant-loop-node l = slice_get (column l.k l.nodes) 0 ≡ slice_get (column l.k (drop l.node-index l.nodes)) 0
