use Rattle.yw_invariant.proofs.FromOpening as opened
use Rattle.yw_invariant.proofs.reached.events_keep_well.Goals as goal

pub returns : goal.returns
returns g c = λ sound es s t well leads. opened.events_keep_well g.R.Reads.reader sound es s t well leads
