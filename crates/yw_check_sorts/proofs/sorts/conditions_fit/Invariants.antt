use Rattle.std.proofs.Common.{All, take}
use Rattle.yw_check_sorts.specs.Fitting.{ConditionFits}
use Rattle.yw_check_sorts.proofs.sorts.conditions_fit.Given as goal

abbrev pub invariant-loop-branch : goal.invariant-loop-branch
invariant-loop-branch l = All (ConditionFits l.scope) (take l.branch-index l.branches)
