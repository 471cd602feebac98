use Rattle.yw_accept.proofs.Loops.{SoFar}
use Rattle.yw_accept.specs.Graph.{ChildFits}
use Rattle.yw_check_graph.proofs.children.check_net.Given as goal

abbrev pub invariant-loop-task : goal.invariant-loop-task
invariant-loop-task l = SoFar (ChildFits l.raw l.net) l.net.task l.task-index
