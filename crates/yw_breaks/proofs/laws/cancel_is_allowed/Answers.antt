use Rattle.yw_breaks.proofs.Allowed.{cancel_allowed}
use Rattle.yw_breaks.proofs.laws.cancel_is_allowed.Goals as goal

pub returns : goal.returns
returns c = cancel_allowed
