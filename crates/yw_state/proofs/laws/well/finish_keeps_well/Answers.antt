use Rattle.yw_state.proofs.EndWell as ending
use Rattle.yw_state.proofs.laws.well.finish_keeps_well.Goals as goal

pub returns : goal.returns
returns g c = λ s n said. ending.finish_keeps_well g.R.Reads.reader s n said
