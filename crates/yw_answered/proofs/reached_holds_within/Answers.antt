use Rattle.yw_answered.proofs.Reached as reached
use Rattle.yw_answered.proofs.reached_holds_within.Goals as goal

pub returns : goal.returns
returns c = reached.reached_holds_within
