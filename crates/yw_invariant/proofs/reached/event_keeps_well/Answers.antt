use Rattle.yw_invariant.proofs.EventsWell as all
use Rattle.yw_invariant.proofs.reached.event_keeps_well.Goals as goal

pub returns : goal.returns
returns g c = λ sound s e t well. all.event_keeps_well g.R.Reads.reader sound s well e t
