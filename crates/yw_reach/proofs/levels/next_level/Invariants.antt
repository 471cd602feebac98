use Rattle.std.proofs.Common.{ℕ, take}
use Rattle.yw_reach.specs.Flows.{HasFlow}
use Rattle.yw_reach.specs.Marking.{AreMarked, Marked}
use Rattle.yw_reach.proofs.levels.next_level.Given as goal

abbrev pub invariant-loop-flow : goal.invariant-loop-flow
invariant-loop-flow l = AreMarked l.count (λ b. (a : ℕ) × Marked l.level a × HasFlow (take l.flow-index l.flows) a b) l.next
