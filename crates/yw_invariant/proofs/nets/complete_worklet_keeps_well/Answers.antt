use Rattle.yw_invariant.proofs.NetsEnd as ending
use Rattle.yw_invariant.proofs.nets.complete_worklet_keeps_well.Goals as goal

pub returns : goal.returns
returns g c = λ s j said. ending.complete_worklet_keeps_well g.R.Reads.reader s j said
