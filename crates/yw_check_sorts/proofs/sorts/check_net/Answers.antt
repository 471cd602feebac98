use Rattle.yw_accept.specs.Facts.{TaskIsNamed}
use Rattle.yw_check_sorts.specs.Fitting.{TaskSortsFit}
use Rattle.yw_accept.proofs.Lists.{at_element}
use Rattle.yw_accept.proofs.Loops.{passes, fails}
use Rattle.yw_check_sorts.proofs.sorts.check_net.Goals as goal

pub check_task-requires-clause-named : goal.check_task-requires-clause-named
check_task-requires-clause-named c =
    at_element TaskIsNamed c.args.net.now.task c.as_slice-task-items.result.now c.as_slice-task-items.ensures c.loop-task.task-index c.task-item.result c.loop-task-test.true c.task-item.is c.requires.tasks

pub returns-in-Some : goal.returns-in-Some
returns-in-Some c =
    fails (TaskSortsFit c.args.net.now) _ _ c.as_slice-task-items.ensures _ _ _ _ c.loop-task-test.true c.task-item.is c.loop-task.invariant c.in_ok-broken.ensures c.in-Some.is

pub loop-task-preserved : goal.loop-task-preserved
loop-task-preserved c =
    passes (TaskSortsFit c.args.net.now) _ _ c.as_slice-task-items.ensures _ _ _ c.loop-task-test.true c.task-item.is c.loop-task.invariant c.in_ok-broken.ensures c.in-None.is
