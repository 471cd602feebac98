use Rattle.yw_snapshot.proofs.Once as once
use Rattle.yw_snapshot.proofs.laws.held_by_either.Goals as goal

pub returns : goal.returns
returns g c = once.held_by_either g.M.Means.meaning
