use Rattle.yw_snapshot.proofs.Once as once
use Rattle.yw_snapshot.proofs.laws.held_once.Goals as goal

pub returns : goal.returns
returns g c = λ is. once.held_once g.M.Means.meaning is
