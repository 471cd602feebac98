use Rattle.yw_accepted.proofs.Uses as uses
use Rattle.yw_accepted.proofs.no_net_uses_itself.Goals as goal

pub returns : goal.returns
returns c = λ raw spec verdict is_spec cycle. uses.no_net_uses_itself raw verdict spec is_spec cycle
