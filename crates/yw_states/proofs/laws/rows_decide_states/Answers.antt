use Rattle.yw_states.proofs.Same.{same_states}
use Rattle.yw_states.proofs.laws.rows_decide_states.Goals as goal

pub returns : goal.returns
returns g c = λ one named. same_states g.R.Reads.reader one named
