use Rattle.yw_trees.proofs.Rules.{none_owned, owned_behind}
use Rattle.yw_trees.proofs.laws.trees_stay_owned.Goals as goal

pub returns-clause-none : goal.returns-clause-none
returns-clause-none c = none_owned

pub returns-clause-behind : goal.returns-clause-behind
returns-clause-behind c = owned_behind
