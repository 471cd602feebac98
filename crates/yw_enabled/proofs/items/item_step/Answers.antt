use Rattle.std.proofs.Common.{ap, ◌∙◌}
use Rattle.yw_enabled.proofs.ItemSteps.{steps_as}
use Rattle.yw_enabled.proofs.items.item_step.Goals as goal
use Rattle.yw_enabled.specs.Items.{step_of}
use Rattle.yw_tree.specs.declared.Node.{out-Node}

pub returns-clause-goes : goal.returns-clause-goes
returns-clause-goes c =
    steps_as c.args.node.now c.args.task.now c.args.ends c.step_of.result
    (c.step_of.ensures ∙ ap (λ b. step_of (out-Node c.args.node.now).stage c.args.task.now.kind b c.args.ends) c.is_some.ensures)
