use Rattle.yw_proper.proofs.Accepted as accepted
use Rattle.yw_proper.proofs.laws.accepted_is_bounded.Goals as goal

pub returns : goal.returns
returns c = λ text spec k net w is at proper. accepted.accepted_is_bounded text spec is k net w at proper
