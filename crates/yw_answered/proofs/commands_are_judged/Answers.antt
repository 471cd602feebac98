use Rattle.yw_answered.proofs.Deciding as deciding
use Rattle.yw_answered.proofs.commands_are_judged.Goals as goal

pub returns : goal.returns
returns g k = λ s c. deciding.is_judged g.R.Reads.reader s c
