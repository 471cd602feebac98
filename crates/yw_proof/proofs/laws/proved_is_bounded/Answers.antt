use Rattle.yw_proof.proofs.Bounded.{proved_bounded}
use Rattle.yw_proof.proofs.laws.proved_is_bounded.Goals as goal

pub returns : goal.returns
returns c = λ text spec net bound found. proved_bounded spec net bound text found
