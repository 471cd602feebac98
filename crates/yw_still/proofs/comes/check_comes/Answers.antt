use Rattle.yw_still.proofs.Urgent as urgent
use Rattle.yw_still.proofs.comes.check_comes.Goals as goal

pub returns : goal.returns
returns g c = λ s j well may. urgent.check_comes g.R.Reads.reader s well j may
