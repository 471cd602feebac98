use Rattle.yw_breaks.proofs.Allowed.{add_allowed}
use Rattle.yw_breaks.proofs.laws.add_is_allowed.Goals as goal

pub returns : goal.returns
returns c = add_allowed
