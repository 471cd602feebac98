use Rattle.yw_state.proofs.LoadWell as load
use Rattle.yw_state.proofs.laws.well.load_keeps_well.Goals as goal

pub returns : goal.returns
returns g c = load.load_keeps_well g.R.Reads.reader
