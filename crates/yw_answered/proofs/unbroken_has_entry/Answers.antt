use Rattle.yw_answered.proofs.Deciding as deciding
use Rattle.yw_answered.proofs.unbroken_has_entry.Goals as goal

pub returns : goal.returns
returns g k = λ reads s c well holds right unbroken. deciding.unbroken_has_entry g.R.Reads.reader reads s well holds c right unbroken
