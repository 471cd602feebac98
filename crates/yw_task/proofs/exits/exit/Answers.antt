use Rattle.std.proofs.Common.{List, ap, subst, sym, ℕ, ◌∙◌}
use Rattle.std.specs.Prelude.{fold}
use Rattle.yw_expr.specs.Rows.{put_in}
use Rattle.yw_state.specs.Passing.{split_places}
use Rattle.yw_task.proofs.ExitLaw.{exits}
use Rattle.yw_task.proofs.exits.exit.Goals as goal
use Rattle.yw_task.specs.Leaves.{Leaves}
use Rattle.yw_tree.specs.declared.NetState.{out-NetState}

pub returns-clause-exits : goal.returns-clause-exits
returns-clause-exits c =
    let old = c.args.state.now in
    let new = c.leave.new.state in
    let task = c.task_at-task.result.now in
    let out = c.args.outcome in
    let vals = fold put_in (out-NetState old).vals out.puts in
    let is = c.requires.outcome task c.task_at-task.ensures in
    let left = subst (λ (cs : List ℕ). Leaves task c.args.t vals cs old new) c.as_slice.ensures c.leave.ensures.leaves in
    exits c.args.net.now c.args.t old new task vals out.places c.task_at-task.ensures is.values (is.places ∙ ap (split_places task) (sym is.values)) left

pub returns-clause-split : goal.returns-clause-split
returns-clause-split c = λ task at. (c.requires.outcome task at).places
