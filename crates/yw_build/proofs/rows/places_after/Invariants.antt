use Rattle.std.proofs.Common.{take}
use Rattle.yw_build.specs.Rows.{AreRows}
use Rattle.yw_build.proofs.rows.places_after.Given as goal

abbrev pub invariant-loop-flow : goal.invariant-loop-flow
invariant-loop-flow l = AreRows l.numbers.said.now (λ flow. flow.from) (take l.flow-index l.numbers.said.now.flows) l.rows.items
