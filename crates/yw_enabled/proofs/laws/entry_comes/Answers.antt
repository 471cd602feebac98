use Rattle.yw_enabled.proofs.Coming.{enter_comes}
use Rattle.yw_enabled.proofs.laws.entry_comes.Goals as goal

pub returns : goal.returns
returns c = λ s i t x taken holds is kind h. enter_comes s holds i t x is taken kind h
