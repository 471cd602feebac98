use Rattle.std.proofs.Common.{All, take}
use Rattle.yw_check_graph.specs.Graph.{HasOrJoin}
use Rattle.yw_check_graph.proofs.joins.or_join.Given as goal

abbrev pub invariant-loop-task : goal.invariant-loop-task
invariant-loop-task l = All (λ task. HasOrJoin task → ⊥) (take l.task-index l.tasks)
