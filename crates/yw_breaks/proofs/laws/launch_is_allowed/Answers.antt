use Rattle.yw_breaks.proofs.Allowed.{launch_allowed}
use Rattle.yw_breaks.proofs.laws.launch_is_allowed.Goals as goal

pub returns : goal.returns
returns c = launch_allowed
