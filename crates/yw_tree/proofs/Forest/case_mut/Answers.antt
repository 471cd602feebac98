use Rattle.std.proofs.Common.{refl}
use Rattle.yw_tree.proofs.Lent.{case_lent}
use Rattle.yw_tree.proofs.Forest.case_mut.Goals as goal

pub returns : goal.returns
returns c = (refl, record { writes_back = tt; value = c.get_mut.ensures.value; placed = case_lent c.args.self.now c.args.n })
