use Rattle.yw_breaks.proofs.Allowed.{start_allowed}
use Rattle.yw_breaks.proofs.laws.start_is_allowed.Goals as goal

pub returns : goal.returns
returns c = start_allowed
