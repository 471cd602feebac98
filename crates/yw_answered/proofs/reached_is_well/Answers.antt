use Rattle.yw_answered.proofs.Reached as reached
use Rattle.yw_answered.proofs.reached_is_well.Goals as goal

pub returns : goal.returns
returns c = reached.reached_is_well
