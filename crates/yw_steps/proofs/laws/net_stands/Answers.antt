use Rattle.yw_steps.proofs.FromState.{net_is, net_stands}
use Rattle.yw_steps.proofs.laws.net_stands.Goals as goal

pub returns-clause-found : goal.returns-clause-found
returns-clause-found c = net_stands

pub returns-clause-is : goal.returns-clause-is
returns-clause-is c = net_is
