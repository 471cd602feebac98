use Rattle.yw_within.proofs.Finding as finding
use Rattle.yw_within.proofs.well_holds_within.Goals as goal

pub returns : goal.returns
returns g c = λ reads s well. finding.well_holds_within g.R.Reads.reader s reads well
