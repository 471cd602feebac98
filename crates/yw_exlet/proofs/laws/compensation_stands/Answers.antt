use Rattle.yw_exlet.proofs.Allowed.{ends}
use Rattle.yw_exlet.proofs.laws.compensation_stands.Goals as goal

pub returns : goal.returns
returns c = λ names f s. ends names f s
