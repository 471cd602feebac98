use Rattle.yw_shown.proofs.Walking.{no_case_shown}
use Rattle.yw_shown.proofs.laws.no_case_is_shown.Goals as goal

pub returns : goal.returns
returns c = no_case_shown
