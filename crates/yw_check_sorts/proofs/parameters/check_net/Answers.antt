use Rattle.yw_accept.specs.Facts.{TaskIsNamed}
use Rattle.yw_accept.proofs.Lists.{at_element}
use Rattle.yw_check_sorts.proofs.parameters.check_net.Goals as goal

pub check_task-requires-clause-task : goal.check_task-requires-clause-task
check_task-requires-clause-task c =
    at_element TaskIsNamed c.args.net.now.task c.as_slice-task-items.result.now c.as_slice-task-items.ensures c.loop-task.task-index c.task-item.result c.loop-task-test.true c.task-item.is c.requires.net.tasks
