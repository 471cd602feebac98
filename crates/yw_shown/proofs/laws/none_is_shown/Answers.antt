use Rattle.yw_shown.proofs.Walking.{none_shown}
use Rattle.yw_shown.proofs.laws.none_is_shown.Goals as goal

pub returns : goal.returns
returns c = none_shown
