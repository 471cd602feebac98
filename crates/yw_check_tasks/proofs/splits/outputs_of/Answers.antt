use Rattle.yw_check_tasks.proofs.OutputLemmas.{outputs_more}
use Rattle.yw_check_tasks.proofs.splits.outputs_of.Goals as goal

pub loop-flow-preserved : goal.loop-flow-preserved
loop-flow-preserved c =
    outputs_more c.loop-flow.outputs c.add_output.new.outputs c.args.flows.now c.loop-flow.flow-index c.flow-item.result c.loop-flow-test.true c.flow-item.is _ _ c.as_str.ensures c.as_str-in-loop-flow.ensures c.loop-flow.invariant c.in_ok-add_output.ensures
