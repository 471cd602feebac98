use Rattle.yw_snapshot.proofs.FoundLaws as found
use Rattle.yw_snapshot.proofs.laws.closed_gate_holds.Goals as goal

pub returns : goal.returns
returns g c = found.closed_holds g.M.Means.meaning
