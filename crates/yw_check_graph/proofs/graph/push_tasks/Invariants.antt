use Rattle.std.proofs.Common.{◌≡◌, ◌++◌, take}
use Rattle.yw_accept.specs.Nodes.{task_names}
use Rattle.yw_check_graph.proofs.graph.push_tasks.Given as goal

abbrev pub invariant-loop-task : goal.invariant-loop-task
invariant-loop-task l = l.names.items ≡ l.fn.names.items ++ task_names (take l.task-index l.tasks)
