use Rattle.yw_accept.specs.Built.{IsAssign}
use Rattle.yw_build.specs.Expressions.{SetIsReady}
use Rattle.yw_build.proofs.ZipLemmas.{item_of, zip_next}
use Rattle.yw_build.proofs.parameters.sets_of.Goals as goal

pub assign_of-requires-clause-ready : goal.assign_of-requires-clause-ready
assign_of-requires-clause-ready c =
    item_of (SetIsReady c.args.numbers.now.said.now c.args.task.now) c.args.task.now.set c.as_slice-assignment-items.result.now c.loop-assignment.assignment-index c.assignment-item.result c.as_slice-assignment-items.ensures c.loop-assignment-test.true
    c.assignment-item.is c.requires.ready

pub loop-assignment-preserved : goal.loop-assignment-preserved
loop-assignment-preserved c =
    zip_next (IsAssign c.args.numbers.now.said.now c.args.task.now) c.args.task.now.set c.as_slice-assignment-items.result.now c.loop-assignment.assignment-index c.assignment-item.result c.loop-assignment.sets c.push.new.self c.in_ok-assign_of.field-0
    c.as_slice-assignment-items.ensures c.loop-assignment-test.true c.assignment-item.is c.loop-assignment.invariant c.in_ok-push.ensures.ok c.in_ok-assign_of.ensures
