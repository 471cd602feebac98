use Rattle.std.proofs.Common.{sym}
use Rattle.yw_deeds.proofs.WorkletsGo.{tells_worklet}
use Rattle.yw_deeds.proofs.worklets.may_complete_worklet.Goals as goal

pub returns : goal.returns
returns c = tells_worklet c.args.standing.now c.args.j.now c.is_at_end.result (sym c.is_at_end.ensures)
