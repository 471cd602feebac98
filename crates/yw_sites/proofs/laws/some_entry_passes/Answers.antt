use Rattle.yw_sites.proofs.Unique.{some_is}
use Rattle.yw_sites.proofs.laws.some_entry_passes.Goals as goal

pub returns : goal.returns
returns c = λ p es u. some_is p es u
