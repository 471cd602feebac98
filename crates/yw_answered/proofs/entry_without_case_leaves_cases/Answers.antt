-- entry_without_case_leaves_cases
use Rattle.yw_answered.proofs.OtherCases.{entry_leaves_cases}
use Rattle.yw_answered.proofs.entry_without_case_leaves_cases.Goals as goal

pub returns : goal.returns
returns g k = entry_leaves_cases g.R.Reads.reader
