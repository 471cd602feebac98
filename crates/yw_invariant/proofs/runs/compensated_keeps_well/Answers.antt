use Rattle.yw_invariant.proofs.NetsEnd as ending
use Rattle.yw_invariant.proofs.runs.compensated_keeps_well.Goals as goal

pub returns : goal.returns
returns g c = λ s r said. ending.compensated_keeps_well g.R.Reads.reader s r said
