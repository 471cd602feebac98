use Rattle.std.proofs.Common.{ℕ, ◌<◌, get_or}
use Rattle.yw_reach.specs.declared.flow.Flow.{Flow}
use Rattle.yw_reach.specs.Flows.{IsWithin}
use Rattle.yw_low_tests.proofs.graph.are_within.Given as goal

abbrev pub invariant-loop-flow : goal.invariant-loop-flow
invariant-loop-flow l = (k : ℕ) (d : Flow) → k < l.flow-index → IsWithin l.count (get_or l.flows k d)
