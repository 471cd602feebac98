use Rattle.yw_invariant.proofs.WorkletBegins as beginning
use Rattle.yw_invariant.proofs.nets.substitute_keeps_well.Goals as goal

pub returns : goal.returns
returns g c = λ sound s j worklet said. beginning.substitute_keeps_well g.R.Reads.reader sound s j worklet said
