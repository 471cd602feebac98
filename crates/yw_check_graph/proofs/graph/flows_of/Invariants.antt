use Rattle.std.proofs.Common.{take}
use Rattle.yw_check_graph.specs.Graph.{AreNumbered}
use Rattle.yw_check_graph.proofs.graph.flows_of.Given as goal

abbrev pub invariant-loop-flow : goal.invariant-loop-flow
invariant-loop-flow l = AreNumbered l.names (take l.flow-index l.said) l.flows.items
