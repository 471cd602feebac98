use Rattle.yw_tree.proofs.ForestLaw.{identity_in_case}
use Rattle.yw_tree.proofs.OwnChange.{own_changed}
use Rattle.yw_tree.proofs.laws.item_changes.Goals as goal

pub returns-clause-site : goal.returns-clause-site
returns-clause-site c = λ names f id old w h k own. (own_changed f id old w k.boxed (identity_in_case id k.identity) k.found k.keeps).0 names h own

pub returns-clause-kept : goal.returns-clause-kept
returns-clause-kept c = λ f id old w k. (own_changed f id old w k.boxed (identity_in_case id k.identity) k.found k.keeps).1
