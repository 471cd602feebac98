use Rattle.yw_breaks.proofs.Allowed.{advance_allowed}
use Rattle.yw_breaks.proofs.laws.advance_is_allowed.Goals as goal

pub returns : goal.returns
returns c = advance_allowed
