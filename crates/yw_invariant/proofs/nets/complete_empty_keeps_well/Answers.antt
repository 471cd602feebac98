use Rattle.yw_invariant.proofs.ItemsEnd as ending
use Rattle.yw_invariant.proofs.nets.complete_empty_keeps_well.Goals as goal

pub returns : goal.returns
returns g c = λ sound s j said. ending.complete_empty_keeps_well g.R.Reads.reader sound s j said
