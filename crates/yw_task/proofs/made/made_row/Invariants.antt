use Rattle.std.proofs.Common.{drop, ◌++◌, ◌≡◌}
use Rattle.yw_task.proofs.made.made_row.Given as goal
use Rattle.yw_task.specs.Making.{outs_from}

abbrev pub invariant-loop-k : goal.invariant-loop-k
invariant-loop-k l = l.row ++ outs_from l.task l.nodes l.k (drop l.k l.task.outs) ≡ outs_from l.task l.nodes 0 l.task.outs
