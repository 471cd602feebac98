use Rattle.yw_invariant.proofs.FromOpening as opened
use Rattle.yw_invariant.proofs.reached.reached_is_well.Goals as goal

pub returns : goal.returns
returns g c = λ sound es t leads. opened.reached_is_well g.R.Reads.reader sound es t leads
