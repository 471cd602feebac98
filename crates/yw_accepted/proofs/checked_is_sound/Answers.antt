use Rattle.yw_accepted.proofs.Soundness as soundness
use Rattle.yw_accepted.proofs.checked_is_sound.Goals as goal

pub returns : goal.returns
returns c = λ raw spec inits verdict is_spec. soundness.is_sound raw verdict inits spec is_spec
