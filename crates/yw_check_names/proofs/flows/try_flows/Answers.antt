use Rattle.yw_accept.specs.Names.{FlowFits}
use Rattle.yw_check_names.specs.Flows.{KnowsFlows}
use Rattle.yw_check_names.proofs.Trying.{tried_more, tried_stops, none_found}
use Rattle.yw_check_names.proofs.flows.try_flows.Goals as goal

pub returns-in-Some : goal.returns-in-Some
returns-in-Some c =
    tried_stops KnowsFlows (FlowFits c.args.net.now) c.args.seen.now c.args.flows.now c.loop-flow.seen c.try_flow.new.seen c.loop-flow.flow-index c.flow-item.result c.loop-flow-test.true
    c.flow-item.is c.loop-flow.invariant c.in_ok-broken.field-0 c.in_ok-broken.ensures c.in-Some.broken c.in-Some.is

pub loop-flow-preserved : goal.loop-flow-preserved
loop-flow-preserved c =
    tried_more KnowsFlows (FlowFits c.args.net.now) c.args.seen.now c.args.flows.now c.loop-flow.seen c.try_flow.new.seen c.loop-flow.flow-index c.flow-item.result c.loop-flow-test.true
    c.flow-item.is c.loop-flow.invariant c.in_ok-broken.field-0 c.in_ok-broken.ensures (none_found c.in_ok-broken.field-0 c.in_default.not-Some)
