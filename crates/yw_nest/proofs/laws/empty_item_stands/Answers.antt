use Rattle.yw_nest.proofs.FromState.{empty_stands}
use Rattle.yw_nest.proofs.laws.empty_item_stands.Goals as goal

pub returns : goal.returns
returns c = empty_stands
