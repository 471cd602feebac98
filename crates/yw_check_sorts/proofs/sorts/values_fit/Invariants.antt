use Rattle.std.proofs.Common.{All, take}
use Rattle.yw_check_sorts.specs.Fitting.{ValueFits}
use Rattle.yw_check_sorts.proofs.sorts.values_fit.Given as goal

abbrev pub invariant-loop-input : goal.invariant-loop-input
invariant-loop-input l = All (ValueFits l.scope) (take l.input-index l.ins)
