use Rattle.std.proofs.Common.{refl}
use Rattle.yw_accept.specs.Built.{IsTaskCalled}
use Rattle.yw_accept.specs.Nodes.{is_task}
use Rattle.yw_build.proofs.ZipLemmas.{zip_some}
use Rattle.yw_build.proofs.removals.removed_tasks.Goals as goal

pub loop-text-preserved : goal.loop-text-preserved
loop-text-preserved c =
    let net = c.args.numbers.now.said.now in
    zip_some (IsTaskCalled net) (is_task net) c.args.texts.now c.args.texts.now c.loop-text.text-index c.text-item.result c.loop-text.tasks c.add_task.new.tasks refl c.loop-text-test.true c.text-item.is c.loop-text.invariant c.in_ok-add_task.ensures
