use Rattle.yw_check_sorts.specs.Fitting.{ConditionFits}
use Rattle.yw_check_sorts.proofs.Deciding.{all_more, all_stops, all_ends}
use Rattle.yw_check_sorts.proofs.sorts.conditions_fit.Goals as goal

pub returns-then-not-branch : goal.returns-then-not-branch
returns-then-not-branch c =
    all_stops (ConditionFits c.args.scope.now) c.args.branches.now c.loop-branch.branch-index c.branch-item.result c.loop-branch-test.true c.branch-item.is c.in_ok-spells_if_any.field-0 c.in_ok-spells_if_any.ensures c.if-not-branch.true

pub loop-branch-preserved : goal.loop-branch-preserved
loop-branch-preserved c =
    all_more (ConditionFits c.args.scope.now) c.args.branches.now c.loop-branch.branch-index c.branch-item.result c.loop-branch-test.true c.branch-item.is c.in_ok-spells_if_any.field-0 c.in_ok-spells_if_any.ensures c.if-not-branch.false c.loop-branch.invariant

pub returns : goal.returns
returns c = all_ends (ConditionFits c.args.scope.now) c.args.branches.now c.loop-branch.branch-index c.loop-branch-test.false c.loop-branch.invariant
