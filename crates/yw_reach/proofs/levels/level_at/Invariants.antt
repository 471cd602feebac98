use Rattle.yw_reach.specs.Flows.{Walk}
use Rattle.yw_reach.specs.Marking.{AreMarked}
use Rattle.yw_reach.proofs.levels.level_at.Given as goal

abbrev pub invariant-steps : goal.invariant-steps
invariant-steps l = AreMarked l.count (λ k. Walk l.flows l.from k l.counter) l.level
