use Rattle.yw_worklet.proofs.Allowed.{may_end}
use Rattle.yw_worklet.proofs.laws.may_end.Goals as goal

pub returns : goal.returns
returns c = may_end
