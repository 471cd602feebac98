use Rattle.yw_state.proofs.MarksWell as marks
use Rattle.yw_state.proofs.laws.well.pass_keeps_well.Goals as goal

pub returns : goal.returns
returns g c = λ s j check said well allowed. marks.pass_keeps_well g.R.Reads.reader s j said well check
