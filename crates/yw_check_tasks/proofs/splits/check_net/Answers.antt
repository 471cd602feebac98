use Rattle.yw_accept.specs.Tasks.{SplitFits}
use Rattle.yw_accept.proofs.Loops.{passes, fails}
use Rattle.yw_check_tasks.proofs.splits.check_net.Goals as goal

pub returns-in-Some : goal.returns-in-Some
returns-in-Some c =
    fails (SplitFits c.args.net.now) _ _ c.as_slice-task-items.ensures _ _ _ _ c.loop-task-test.true c.task-item.is c.loop-task.invariant c.in_ok-broken.ensures c.in-Some.is

pub loop-task-preserved : goal.loop-task-preserved
loop-task-preserved c =
    passes (SplitFits c.args.net.now) _ _ c.as_slice-task-items.ensures _ _ _ c.loop-task-test.true c.task-item.is c.loop-task.invariant c.in_ok-broken.ensures c.in-None.is
