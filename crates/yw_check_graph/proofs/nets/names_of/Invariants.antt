use Rattle.std.proofs.Common.{◌≡◌, take}
use Rattle.yw_accept.specs.Nodes.{net_names}
use Rattle.yw_check_graph.proofs.nets.names_of.Given as goal

abbrev pub invariant-loop-net : goal.invariant-loop-net
invariant-loop-net l = l.names.items ≡ net_names (take l.net-index l.nets)
