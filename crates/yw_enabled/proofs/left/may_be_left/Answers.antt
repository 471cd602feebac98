use Rattle.std.proofs.Common.{sym, ◌∙◌}
use Rattle.yw_enabled.proofs.LeaveLaw.{by_outcome, too_few}
use Rattle.yw_enabled.proofs.Results.{ok_then}
use Rattle.yw_enabled.proofs.left.may_be_left.Goals as goal
use Rattle.yw_enabled.specs.Left.{FindsRoom, LeavesAs}

pub returns-then-are_enough : goal.returns-then-are_enough
returns-then-are_enough c = λ right.
    let task = c.task_at-task.result.now in
    let ns = c.items_in-nodes.result.now in
    ok_then c.outcome_with_room.result (FindsRoom c.args.state.now task ns) (LeavesAs c.args.net.now c.args.state.now c.args.t) c.outcome_with_room.ensures
    (by_outcome c.args.net.now c.args.state.now c.args.t task ns c.task_at-task.ensures c.items_in-nodes.ensures c.args.told right
    (sym c.are_enough.ensures ∙ c.if-are_enough.true))

pub returns : goal.returns
returns c = λ right.
    too_few c.args.net.now c.args.state.now c.args.t c.task_at-task.result.now c.items_in-nodes.result.now c.task_at-task.ensures c.items_in-nodes.ensures
    c.args.told right (sym c.are_enough.ensures ∙ c.if-are_enough.false)
