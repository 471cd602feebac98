use Rattle.yw_open.proofs.Enters.{unchosen}
use Rattle.yw_open.proofs.nets.is_chosen.Goals as goal

pub returns : goal.returns
returns c = λ s x none. unchosen s x none
