use Rattle.yw_asked.proofs.TreesAsked as trees
use Rattle.yw_asked.proofs.trees.raise_has_event.Goals as goal

pub returns : goal.returns
returns g c = λ s j kind raised. trees.raise_has_event g.R.Reads.reader s j kind raised
