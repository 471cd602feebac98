use Rattle.yw_check_graph.proofs.LinkLemmas.{adds_none, adds_more, adds_all}
use Rattle.yw_check_graph.proofs.nets.push_links.Goals as goal

pub loop-task-init : goal.loop-task-init
loop-task-init c = adds_none _ _

pub loop-task-preserved : goal.loop-task-preserved
loop-task-preserved c =
    adds_more _ _ c.args.tasks.now c.loop-task.task-index c.task-item.result _ _ _ c.loop-task-test.true c.task-item.is c.loop-task.invariant c.in_ok-push_link.ensures

pub returns : goal.returns
returns c = adds_all _ _ c.args.tasks.now c.loop-task.task-index _ _ c.loop-task-test.false c.loop-task.invariant
