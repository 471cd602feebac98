use Rattle.yw_snapshot.proofs.FoundLaws as found
use Rattle.yw_snapshot.proofs.laws.snapshot_damages.Goals as goal

pub returns : goal.returns
returns g c = found.snapshot_damages g.M.Means.meaning
