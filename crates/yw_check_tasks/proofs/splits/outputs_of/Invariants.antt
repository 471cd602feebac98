use Rattle.std.proofs.Common.{take}
use Rattle.yw_check_tasks.specs.Outputs.{AreOutputs}
use Rattle.yw_check_tasks.proofs.splits.outputs_of.Given as goal

abbrev pub invariant-loop-flow : goal.invariant-loop-flow
invariant-loop-flow l = AreOutputs (take l.flow-index l.flows) l.outputs
