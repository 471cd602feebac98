use Rattle.std.proofs.Common.{take, ◌++◌, ◌≡◌}
use Rattle.std.specs.Prelude.{fold}
use Rattle.yw_expr.specs.Rows.{put_in}
use Rattle.yw_task.proofs.made.assigned_values.Given as goal
use Rattle.yw_task.specs.Making.{assigned}

abbrev pub invariant-loop-one : goal.invariant-loop-one
invariant-loop-one l = fold put_in l.vals l.puts ≡ fold (assigned (l.over.first.now ++ l.over.then.now)) l.vals (take l.one-index l.task.set)
