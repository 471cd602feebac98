use Rattle.yw_check_sorts.specs.Fitting.{AssignmentFits}
use Rattle.yw_check_sorts.proofs.Deciding.{all_more, all_stops, all_ends}
use Rattle.yw_check_sorts.proofs.sorts.assignments_fit.Goals as goal

pub returns-then-not-branch : goal.returns-then-not-branch
returns-then-not-branch c =
    all_stops (AssignmentFits c.args.vars.now c.args.scope.now) c.args.assignments.now c.loop-assignment.assignment-index c.assignment-item.result c.loop-assignment-test.true c.assignment-item.is c.in_ok-assignment_fits.field-0 c.in_ok-assignment_fits.ensures c.if-not-branch.true

pub loop-assignment-preserved : goal.loop-assignment-preserved
loop-assignment-preserved c =
    all_more (AssignmentFits c.args.vars.now c.args.scope.now) c.args.assignments.now c.loop-assignment.assignment-index c.assignment-item.result c.loop-assignment-test.true c.assignment-item.is c.in_ok-assignment_fits.field-0 c.in_ok-assignment_fits.ensures c.if-not-branch.false c.loop-assignment.invariant

pub returns : goal.returns
returns c = all_ends (AssignmentFits c.args.vars.now c.args.scope.now) c.args.assignments.now c.loop-assignment.assignment-index c.loop-assignment-test.false c.loop-assignment.invariant
