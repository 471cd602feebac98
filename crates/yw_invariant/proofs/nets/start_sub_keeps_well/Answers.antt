use Rattle.yw_invariant.proofs.NetsBegin as beginning
use Rattle.yw_invariant.proofs.nets.start_sub_keeps_well.Goals as goal

pub returns : goal.returns
returns g c = λ sound s j said. beginning.start_sub_keeps_well g.R.Reads.reader sound s j said
