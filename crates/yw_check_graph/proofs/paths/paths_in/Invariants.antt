use Rattle.yw_accept.proofs.Loops.{SoFar}
use Rattle.yw_accept.specs.Graph.{NodeIsOnPath}
use Rattle.yw_accept.specs.Nodes.{nodes}
use Rattle.yw_accept.specs.Order.{InOrder}
use Rattle.yw_check_graph.proofs.paths.paths_in.Given as goal

abbrev pub invariant-loop-net : goal.invariant-loop-net
invariant-loop-net l = SoFar (λ net. InOrder (NodeIsOnPath net) (nodes net)) l.nets l.net-index
