use Rattle.std.proofs.Common.{sym}
use Rattle.yw_deeds.proofs.WorkletsGo.{tells_substitute}
use Rattle.yw_deeds.proofs.worklets.may_substitute.Goals as goal

pub returns : goal.returns
returns c = tells_substitute c.args.standing.now c.args.j.now c.args.worklet.now c.substitutes.result (sym c.substitutes.ensures)
