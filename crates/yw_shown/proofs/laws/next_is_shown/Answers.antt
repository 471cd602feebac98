use Rattle.yw_shown.proofs.Walking.{next_shown}
use Rattle.yw_shown.proofs.laws.next_is_shown.Goals as goal

pub returns : goal.returns
returns c = next_shown
