use Rattle.yw_snapshot.proofs.FoundLaws as found
use Rattle.yw_snapshot.proofs.laws.shown_damages.Goals as goal

pub returns : goal.returns
returns g c = found.shown_damages g.M.Means.meaning
