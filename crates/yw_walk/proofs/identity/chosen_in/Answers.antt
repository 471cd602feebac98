use Rattle.yw_walk.proofs.Entering.{none_chosen}
use Rattle.yw_walk.proofs.identity.chosen_in.Goals as goal

pub returns : goal.returns
returns c = none_chosen
