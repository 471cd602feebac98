use Rattle.std.proofs.Common.{ap, ◌∙◌}
use Rattle.yw_walk.proofs.Leaving.{made_exit}
use Rattle.yw_walk.proofs.tasks.exit_of.Goals as goal
use Rattle.yw_walk.specs.Places.{places_numbered}

pub returns : goal.returns
returns c =
    let here = c.args.here.now in
    made_exit here.net.now here.state.now c.args.at.now c.args.t c.task_at-task.result.now c.task_at-task.ensures c.args.outcome _ _ _
    c.in_ok-copy.ensures c.in_ok-copy-2.ensures (c.in_ok-places_of.ensures ∙ ap (places_numbered here.net.now) c.as_slice.ensures)
