use Rattle.yw_accept.specs.Names.{TaskNames}
use Rattle.yw_check_names.specs.Tried.{KnowsNodes}
use Rattle.yw_check_names.proofs.Trying.{tried_more, tried_stops, none_found}
use Rattle.yw_check_names.proofs.names.try_tasks.Goals as goal

pub returns-in-Some : goal.returns-in-Some
returns-in-Some c =
    tried_stops (KnowsNodes c.args.net.now) (TaskNames c.args.net.now) c.args.seen.now c.args.tasks.now c.loop-task.seen c.try_task.new.seen c.loop-task.task-index c.task-item.result
    c.loop-task-test.true c.task-item.is c.loop-task.invariant c.in_ok-broken.field-0 c.in_ok-broken.ensures c.in-Some.broken c.in-Some.is

pub loop-task-preserved : goal.loop-task-preserved
loop-task-preserved c =
    tried_more (KnowsNodes c.args.net.now) (TaskNames c.args.net.now) c.args.seen.now c.args.tasks.now c.loop-task.seen c.try_task.new.seen c.loop-task.task-index c.task-item.result
    c.loop-task-test.true c.task-item.is c.loop-task.invariant c.in_ok-broken.field-0 c.in_ok-broken.ensures (none_found c.in_ok-broken.field-0 c.in_default.not-Some)
