use Rattle.yw_snapshot.proofs.FoundLaws as found
use Rattle.yw_snapshot.proofs.laws.nowhere_damages.Goals as goal

pub returns : goal.returns
returns g c = found.nowhere_damages g.M.Means.meaning
