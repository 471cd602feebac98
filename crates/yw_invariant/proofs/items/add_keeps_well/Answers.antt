use Rattle.yw_invariant.proofs.ItemsCome as coming
use Rattle.yw_invariant.proofs.items.add_keeps_well.Goals as goal

pub returns : goal.returns
returns g c = λ sound s i t value n said. coming.add_keeps_well g.R.Reads.reader sound s i t value n said
