use Rattle.yw_state.proofs.EndedNets.{ended-net-gone}
use Rattle.yw_state.proofs.laws.gone.ended_net_is_gone.Goals as goal

pub returns : goal.returns
returns c = ended-net-gone
