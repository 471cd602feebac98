use Rattle.yw_snapshot.proofs.FoundLaws as found
use Rattle.yw_snapshot.proofs.laws.opening_keeps.Goals as goal

pub returns : goal.returns
returns g c = found.opening_keeps g.M.Means.meaning
