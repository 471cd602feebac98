use Rattle.yw_worklet.proofs.Allowed.{may_choose}
use Rattle.yw_worklet.proofs.laws.may_choose.Goals as goal

pub returns : goal.returns
returns c = may_choose
