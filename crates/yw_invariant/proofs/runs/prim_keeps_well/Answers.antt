use Rattle.yw_invariant.proofs.PrimitivesWell as primitives
use Rattle.yw_invariant.proofs.runs.prim_keeps_well.Goals as goal

pub returns : goal.returns
returns g c = λ sound s r p said. primitives.prim_keeps_well g.R.Reads.reader sound s r p said
