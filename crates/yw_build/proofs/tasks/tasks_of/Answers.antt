use Rattle.yw_accept.specs.Built.{IsTask}
use Rattle.yw_build.proofs.ZipLemmas.{zip_next}
use Rattle.yw_build.proofs.tasks.tasks_of.Goals as goal

pub loop-number-preserved : goal.loop-number-preserved
loop-number-preserved c =
    let net = c.args.numbers.now.said.now in
    zip_next (IsTask c.args.spec.now.said.now net) net.task c.as_slice-task-items.result.now c.loop-number.number c.task-item.result c.loop-number.tasks c.push.new.self c.in_ok-task_of.field-0 c.as_slice-task-items.ensures c.loop-number-test.true
    c.task-item.is c.loop-number.invariant c.in_ok-push.ensures.ok c.in_ok-task_of.ensures
