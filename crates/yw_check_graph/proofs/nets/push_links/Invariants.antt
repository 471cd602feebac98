use Rattle.std.proofs.Common.{take}
use Rattle.yw_check_graph.specs.Graph.{name_at}
use Rattle.yw_check_graph.specs.Nets.{AddsFlows, links_from}
use Rattle.yw_check_graph.proofs.nets.push_links.Given as goal

abbrev pub invariant-loop-task : goal.invariant-loop-task
invariant-loop-task l =
    AddsFlows l.names (links_from l.names (name_at l.names l.from) (take l.task-index l.tasks)) l.fn.flows.items l.flows.items
