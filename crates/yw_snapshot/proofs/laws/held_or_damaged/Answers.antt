use Rattle.yw_snapshot.proofs.Once as once
use Rattle.yw_snapshot.proofs.laws.held_or_damaged.Goals as goal

pub returns : goal.returns
returns g c = λ is. once.held_or_damaged g.M.Means.meaning is
