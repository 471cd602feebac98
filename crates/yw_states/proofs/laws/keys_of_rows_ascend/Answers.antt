use Rattle.yw_states.proofs.Rising.{keys_ascend}
use Rattle.yw_states.proofs.laws.keys_of_rows_ascend.Goals as goal

pub returns : goal.returns
returns g c = keys_ascend g.R.Reads.reader
