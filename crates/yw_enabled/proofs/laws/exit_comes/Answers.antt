use Rattle.yw_enabled.proofs.Coming.{exit_comes}
use Rattle.yw_enabled.proofs.laws.exit_comes.Goals as goal

pub returns : goal.returns
returns c = λ s i t x holds is may. exit_comes s holds i t x is may
