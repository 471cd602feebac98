use Rattle.yw_nest.proofs.FromState.{case_begins}
use Rattle.yw_nest.proofs.laws.case_may_begin.Goals as goal

pub returns : goal.returns
returns c = case_begins
