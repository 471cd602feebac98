use Rattle.std.proofs.Common.{All, take}
use Rattle.yw_check_sorts.specs.Fitting.{AssignmentFits}
use Rattle.yw_check_sorts.proofs.sorts.assignments_fit.Given as goal

abbrev pub invariant-loop-assignment : goal.invariant-loop-assignment
invariant-loop-assignment l = All (AssignmentFits l.vars l.scope) (take l.assignment-index l.assignments)
