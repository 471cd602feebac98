use Rattle.std.proofs.Common.{List, subst}
use Rattle.yw_read.specs.declared.raw.RawTask.{RawTask}
use Rattle.yw_check_graph.specs.Graph.{name_at}
use Rattle.yw_check_graph.specs.Nets.{AddsFlows, links_from}
use Rattle.yw_check_graph.proofs.LinkLemmas.{net_more, net_within, nets_all}
use Rattle.yw_check_graph.proofs.nets.links_of.Goals as goal

pub push_links-requires-clause-from : goal.push_links-requires-clause-from
push_links-requires-clause-from c = net_within _ _ _ c.requires.names c.loop-from-test.true

pub loop-from-preserved : goal.loop-from-preserved
loop-from-preserved c =
    let P : List RawTask → Type 0 = λ tasks. AddsFlows c.args.names.now (links_from c.args.names.now (name_at c.args.names.now c.loop-from.from) tasks) c.loop-from.flows.items c.push_links.new.flows.items in
    net_more _ _ c.loop-from.from c.index-nets-from.result _ _ c.requires.names c.loop-from-test.true c.index-nets-from.is c.loop-from.invariant
    (subst P c.as_slice.ensures (c.in_ok-push_links.ensures))

pub returns : goal.returns
returns c = nets_all _ c.args.nets.now c.loop-from.from _ c.loop-from-test.false c.loop-from.invariant
