use Rattle.yw_state.proofs.StageWell as stages
use Rattle.yw_state.proofs.laws.well.start_keeps_well.Goals as goal

pub returns : goal.returns
returns g c = stages.start_keeps_well g.R.Reads.reader
