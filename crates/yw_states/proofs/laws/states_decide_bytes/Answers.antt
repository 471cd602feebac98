use Rattle.yw_states.proofs.Same.{one_text}
use Rattle.yw_states.proofs.laws.states_decide_bytes.Goals as goal

pub returns : goal.returns
returns g c = one_text g.R.Reads.reader
