use Rattle.yw_accept.specs.Names.{FlowFits}
use Rattle.yw_check_names.specs.Flows.{KnowsFlows}
use Rattle.yw_check_names.proofs.Trying.{TriedSoFar}
use Rattle.yw_check_names.proofs.flows.try_flows.Given as goal

abbrev pub invariant-loop-flow : goal.invariant-loop-flow
invariant-loop-flow l = TriedSoFar KnowsFlows (FlowFits l.net) l.initial.seen l.seen l.flows l.flow-index
