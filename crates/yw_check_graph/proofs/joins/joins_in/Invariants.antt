use Rattle.yw_accept.proofs.Loops.{SoFar}
use Rattle.yw_accept.specs.Graph.{OrJoinFits}
use Rattle.yw_accept.specs.Order.{InOrder}
use Rattle.yw_check_graph.proofs.joins.joins_in.Given as goal

abbrev pub invariant-loop-net : goal.invariant-loop-net
invariant-loop-net l = SoFar (λ net. InOrder (OrJoinFits net) net.task) l.nets l.net-index
