use Rattle.yw_nest.proofs.FromState.{inner_is, sub_ends}
use Rattle.yw_nest.proofs.laws.sub_may_end.Goals as goal

pub returns-clause-may : goal.returns-clause-may
returns-clause-may c = sub_ends

pub returns-clause-inner : goal.returns-clause-inner
returns-clause-inner c = inner_is
