use Rattle.yw_accepted.proofs.Soundness as soundness
use Rattle.yw_accepted.proofs.said_has_inits.Goals as goal

pub returns : goal.returns
returns c = soundness.said_inits
