use Rattle.std.proofs.Common.{ap, sym, ◌∙◌}
use Rattle.yw_trees.proofs.Texts.{its_linked}
use Rattle.yw_trees.proofs.trees.Trees.tree_of.Goals as goal
use Rattle.yw_trees.specs.Placed.{linked}

pub returns-in-Some : goal.returns-in-Some
returns-in-Some c = sym (ap linked c.in-Some.ensures.1 ∙ its_linked c.in-Some.grown.now c.in-Some.ensures.0)
