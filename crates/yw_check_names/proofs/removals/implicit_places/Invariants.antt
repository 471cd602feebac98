use Rattle.std.proofs.Common.{take}
use Rattle.yw_check_names.specs.Removals.{AreImplicit}
use Rattle.yw_check_names.proofs.removals.implicit_places.Given as goal

abbrev pub invariant-loop-flow : goal.invariant-loop-flow
invariant-loop-flow l = AreImplicit l.tasks (take l.flow-index l.flows) l.set
