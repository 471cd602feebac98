use Rattle.std.proofs.Common.{sym}
use Rattle.yw_deeds.proofs.ExletsGo.{tells_raise}
use Rattle.yw_deeds.proofs.exlets.may_raise.Goals as goal

pub returns : goal.returns
returns c = tells_raise c.args.standing.now c.args.at.now c.args.kind c.args.node c.args.n c.raises.result (sym c.raises.ensures)
