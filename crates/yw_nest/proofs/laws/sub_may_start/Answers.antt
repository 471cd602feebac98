use Rattle.yw_nest.proofs.FromState.{sub_starts}
use Rattle.yw_nest.proofs.laws.sub_may_start.Goals as goal

pub returns : goal.returns
returns c = sub_starts
