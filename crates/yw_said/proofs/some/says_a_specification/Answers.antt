use Rattle.yw_said.proofs.SomeSpec.{says_some}
use Rattle.yw_said.proofs.some.says_a_specification.Goals as goal

pub returns : goal.returns
returns c = says_some
