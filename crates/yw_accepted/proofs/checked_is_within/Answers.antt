use Rattle.yw_accepted.proofs.Whole as whole
use Rattle.yw_accepted.proofs.checked_is_within.Goals as goal

pub returns : goal.returns
returns c = whole.checked_is_within
