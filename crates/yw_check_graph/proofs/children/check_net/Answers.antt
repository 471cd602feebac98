use Rattle.yw_accept.specs.Graph.{ChildFits}
use Rattle.yw_accept.proofs.Loops.{fails}
use Rattle.yw_check_graph.proofs.children.check_net.Goals as goal

pub returns-in-Some : goal.returns-in-Some
returns-in-Some c =
    fails (ChildFits c.args.raw.now c.args.net.now) c.args.net.now.task c.as_slice-task-items.result.now c.as_slice-task-items.ensures
    c.loop-task.task-index c.task-item.result c.in_ok-check_child.field-0 c.in-Some.broken c.loop-task-test.true c.task-item.is c.loop-task.invariant
    (c.in_ok-check_child.ensures) c.in-Some.is
