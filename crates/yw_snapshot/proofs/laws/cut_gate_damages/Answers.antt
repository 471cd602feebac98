use Rattle.yw_snapshot.proofs.FoundLaws as found
use Rattle.yw_snapshot.proofs.laws.cut_gate_damages.Goals as goal

pub returns : goal.returns
returns g c = found.cut_damages g.M.Means.meaning
