use Rattle.yw_check_sorts.specs.Agreeing.{ItemFitsOver}
use Rattle.yw_check_sorts.proofs.Deciding.{all_more, all_stops, all_ends}
use Rattle.yw_check_sorts.proofs.parameters.items_fit.Goals as goal

pub returns-then-not-branch : goal.returns-then-not-branch
returns-then-not-branch c =
    all_stops (ItemFitsOver c.args.scope.now c.args.task.now) c.args.ins.now c.loop-input.input-index c.input-item.result c.loop-input-test.true c.input-item.is c.in_ok-item_fits.field-0 c.in_ok-item_fits.ensures c.if-not-branch.true

pub loop-input-preserved : goal.loop-input-preserved
loop-input-preserved c =
    all_more (ItemFitsOver c.args.scope.now c.args.task.now) c.args.ins.now c.loop-input.input-index c.input-item.result c.loop-input-test.true c.input-item.is c.in_ok-item_fits.field-0 c.in_ok-item_fits.ensures c.if-not-branch.false c.loop-input.invariant

pub returns : goal.returns
returns c = all_ends (ItemFitsOver c.args.scope.now c.args.task.now) c.args.ins.now c.loop-input.input-index c.loop-input-test.false c.loop-input.invariant
