use Rattle.std.proofs.Common.{take}
use Rattle.yw_check_graph.specs.Graph.{AreNumbered}
use Rattle.yw_check_graph.specs.Nets.{links}
use Rattle.yw_check_graph.proofs.nets.links_of.Given as goal

abbrev pub invariant-loop-from : goal.invariant-loop-from
invariant-loop-from l = AreNumbered l.names (links l.names (take l.from l.nets)) l.flows.items
