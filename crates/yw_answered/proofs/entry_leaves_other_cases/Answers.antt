use Rattle.yw_answered.proofs.OtherCases.{entry_elsewhere}
use Rattle.yw_answered.proofs.entry_leaves_other_cases.Goals as goal

pub returns : goal.returns
returns g k = λ sound s t c entry quiet n well legal of. entry_elsewhere g.R.Reads.reader sound n s t c entry quiet well legal of
