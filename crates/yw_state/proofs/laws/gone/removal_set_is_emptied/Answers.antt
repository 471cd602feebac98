use Rattle.yw_state.proofs.Emptied.{emptied}
use Rattle.yw_state.proofs.laws.gone.removal_set_is_emptied.Goals as goal

pub returns : goal.returns
returns c = emptied
