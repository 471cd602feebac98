use Rattle.yw_snapshot.proofs.Once as once
use Rattle.yw_snapshot.proofs.laws.damaged_once.Goals as goal

pub returns : goal.returns
returns g c = λ is. once.damaged_once g.M.Means.meaning is
