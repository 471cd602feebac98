use Rattle.std.proofs.Common.{ap, length, subst, sym, ◌∙◌, ◌≤◌}
use Rattle.yw_walk.proofs.Entering.{made_entry}
use Rattle.yw_walk.proofs.tasks.entry_of.Goals as goal
use Rattle.yw_walk.specs.Finds.{most_items}

pub returns : goal.returns
returns c =
    let here = c.args.here.now in
    let task = c.task_at-task.result.now in
    let gives = c.requires.gives task c.task_at-task.ensures in
    let long = c.len.ensures ∙ c.args.rows.ok.0 ∙ ap length gives in
    made_entry here.net.now here.state.now c.args.at.now c.args.next c.args.t task c.args.taken
    c.entry_count.result c.args.rows c.task_at-task.ensures _ _ c.as_slice.result.now _
    c.in_ok-copy.ensures c.in_ok-copy-2.ensures
    (c.as_slice.ensures.value ∙ c.in_ok-numbers.ensures) c.in_ok-places_of.ensures gives
    (λ few. c.entry_count.ensures (subst (λ k. k ≤ most_items task) (sym long) few) ∙ long)
