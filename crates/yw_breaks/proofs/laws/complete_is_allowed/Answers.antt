use Rattle.yw_breaks.proofs.Allowed.{complete_allowed}
use Rattle.yw_breaks.proofs.laws.complete_is_allowed.Goals as goal

pub returns : goal.returns
returns c = complete_allowed
