use Rattle.yw_state.proofs.MarksWell as marks
use Rattle.yw_state.proofs.laws.well.suspend_keeps_well.Goals as goal

pub returns : goal.returns
returns g c = λ s j said. marks.suspend_keeps_well g.R.Reads.reader s j said
