use Rattle.std.proofs.Common.{sym}
use Rattle.yw_deeds.proofs.ExletsGo.{tells_except}
use Rattle.yw_deeds.proofs.exlets.may_except.Goals as goal

pub returns : goal.returns
returns c = tells_except c.args.standing.now c.args.at.now c.args.check c.args.node c.args.n c.excepts.result (sym c.excepts.ensures)
