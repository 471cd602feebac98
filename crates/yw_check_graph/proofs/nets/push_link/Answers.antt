use Rattle.std.proofs.Common.{List, option_to_list, subst, sym}
use Rattle.yw_reach.specs.declared.flow.Flow.{Flow}
use Rattle.yw_check_graph.specs.Graph.{name_at}
use Rattle.yw_check_graph.specs.Nets.{AddsFlows, link}
use Rattle.yw_check_graph.proofs.LinkLemmas.{adds_one}
use Rattle.yw_check_graph.proofs.nets.push_link.Goals as goal

pub returns-in_ok-push-in-Some : goal.returns-in_ok-push-in-Some
returns-in_ok-push-in-Some c =
    let P : List Flow → Type 0 = λ flows. AddsFlows c.args.names.now (option_to_list (link c.args.names.now (name_at c.args.names.now c.args.from) c.args.task.now)) c.args.flows.now.items flows in
    subst P (sym c.in_ok-push-in-Some.ensures.items)
    (adds_one c.args.names.now c.args.from c.args.task.now c.in-Some.to c.args.flows.now.items c.requires.from (c.in-Some.ensures c.args.names.now c.requires.index))
