use Rattle.yw_states.proofs.Same.{same_by_bytes}
use Rattle.yw_states.proofs.laws.bytes_decide_states.Goals as goal

pub returns : goal.returns
returns g c = same_by_bytes g.R.Reads.reader
