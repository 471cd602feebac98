use Rattle.yw_invariant.proofs.RunsBegin as beginning
use Rattle.yw_invariant.proofs.runs.except_keeps_well.Goals as goal

pub returns : goal.returns
returns g c = λ sound s j check node n said. beginning.except_keeps_well g.R.Reads.reader sound s j check node n said
