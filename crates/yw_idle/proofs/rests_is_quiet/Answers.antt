use Rattle.yw_idle.proofs.Resting.{still}
use Rattle.yw_idle.proofs.rests_is_quiet.Goals as goal

pub returns : goal.returns
returns c = λ s n cold rests. c.still_is_quiet.ensures s n (still s n cold rests)
