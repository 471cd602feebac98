use Rattle.yw_snapshot.proofs.FoundLaws as found
use Rattle.yw_snapshot.proofs.laws.opened_holds.Goals as goal

pub returns : goal.returns
returns g c = found.opened_holds g.M.Means.meaning
