use Rattle.yw_trees.proofs.Right.{none_right}
use Rattle.yw_trees.proofs.trees.Trees.new.Goals as goal

pub invariant_of-result : goal.invariant_of-result
invariant_of-result c = none_right c.new.result c.new-2.result c.new.ensures c.new-2.ensures
