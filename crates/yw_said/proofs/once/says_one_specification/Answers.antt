use Rattle.yw_said.proofs.OnceSpec.{one_spec}
use Rattle.yw_said.proofs.once.says_one_specification.Goals as goal

pub returns : goal.returns
returns c = one_spec
