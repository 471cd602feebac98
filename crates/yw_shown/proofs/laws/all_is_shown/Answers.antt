use Rattle.yw_shown.proofs.Walking.{all_shown}
use Rattle.yw_shown.proofs.laws.all_is_shown.Goals as goal

pub returns : goal.returns
returns c = all_shown
