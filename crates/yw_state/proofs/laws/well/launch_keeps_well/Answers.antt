use Rattle.yw_state.proofs.LaunchWell as launching
use Rattle.yw_state.proofs.laws.well.launch_keeps_well.Goals as goal

pub returns : goal.returns
returns g c = launching.launch_keeps_well g.R.Reads.reader
