use Rattle.std.proofs.Common.{drop, ◌++◌, ◌≡◌}
use Rattle.yw_steps.proofs.together.outs_once.Given as goal
use Rattle.yw_steps.specs.Completes.{outs_once}

abbrev pub invariant-loop-k : goal.invariant-loop-k
invariant-loop-k l = l.row ++ outs_once l.j l.out l.nodes l.k (drop l.k l.task.outs) ≡ outs_once l.j l.out l.nodes 0 l.task.outs
