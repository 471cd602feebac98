use Rattle.yw_deeds.proofs.ExletsGo.{left_is}
use Rattle.yw_deeds.proofs.exlets.none_is_left.Goals as goal

pub returns : goal.returns
returns c = left_is c.args.standing.now
