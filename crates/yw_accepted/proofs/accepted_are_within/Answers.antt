use Rattle.yw_accepted.proofs.Loaded as loaded
use Rattle.yw_accepted.proofs.accepted_are_within.Goals as goal

pub returns : goal.returns
returns c = loaded.accepted_are_within
