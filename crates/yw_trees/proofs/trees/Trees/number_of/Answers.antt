use Rattle.std.proofs.Common.{ap, ◌∙◌}
use Rattle.yw_trees.proofs.trees.Trees.number_of.Goals as goal
use Rattle.yw_trees.specs.Placed.{number_for}

pub returns : goal.returns
returns c = c.get.ensures ∙ c.self.invariant.slotted c.args.owner c.args.kind ∙ ap (number_for c.args.owner c.args.kind) c.self.view_is
