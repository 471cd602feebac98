use Rattle.yw_snapshot.proofs.FoundLaws as found
use Rattle.yw_snapshot.proofs.laws.reaches_on.Goals as goal

pub returns : goal.returns
returns g c = found.reaches_on g.M.Means.meaning
