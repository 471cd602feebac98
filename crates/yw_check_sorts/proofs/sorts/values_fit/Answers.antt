use Rattle.yw_check_sorts.specs.Fitting.{ValueFits}
use Rattle.yw_check_sorts.proofs.Deciding.{all_more, all_stops, all_ends}
use Rattle.yw_check_sorts.proofs.sorts.values_fit.Goals as goal

pub returns-then-not-branch : goal.returns-then-not-branch
returns-then-not-branch c =
    all_stops (ValueFits c.args.scope.now) c.args.ins.now c.loop-input.input-index c.input-item.result c.loop-input-test.true c.input-item.is c.in_ok-spells_if_any.field-0 c.in_ok-spells_if_any.ensures c.if-not-branch.true

pub loop-input-preserved : goal.loop-input-preserved
loop-input-preserved c =
    all_more (ValueFits c.args.scope.now) c.args.ins.now c.loop-input.input-index c.input-item.result c.loop-input-test.true c.input-item.is c.in_ok-spells_if_any.field-0 c.in_ok-spells_if_any.ensures c.if-not-branch.false c.loop-input.invariant

pub returns : goal.returns
returns c = all_ends (ValueFits c.args.scope.now) c.args.ins.now c.loop-input.input-index c.loop-input-test.false c.loop-input.invariant
