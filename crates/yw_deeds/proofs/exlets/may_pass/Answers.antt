use Rattle.std.proofs.Common.{sym}
use Rattle.yw_deeds.proofs.ExletsGo.{tells_pass}
use Rattle.yw_deeds.proofs.exlets.may_pass.Goals as goal

pub returns : goal.returns
returns c = tells_pass c.args.standing.now c.args.at.now c.args.check c.passes.result (sym c.passes.ensures)
