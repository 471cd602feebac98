use Rattle.yw_proper.proofs.Bounded as bounded
use Rattle.yw_proper.proofs.laws.certified_is_bounded.Goals as goal

pub returns : goal.returns
returns g c = bounded.certified_is_bounded g.R.Reads.reader
