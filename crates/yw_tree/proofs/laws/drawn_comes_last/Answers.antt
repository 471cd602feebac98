use Rattle.yw_tree.proofs.Drawn.{after_drawn}
use Rattle.yw_tree.proofs.Parents.{identity_short}
use Rattle.yw_base.proofs.Parents.{identity_long}
use Rattle.yw_tree.proofs.laws.drawn_comes_last.Goals as goal

pub returns : goal.returns
returns c = λ f id n b i drawn. after_drawn f id n b (identity_long id i) (identity_short id i) drawn
