use Rattle.std.proofs.Common.{sym}
use Rattle.yw_deeds.proofs.RunsGo.{tells_compensated}
use Rattle.yw_deeds.proofs.runs.may_compensated.Goals as goal

pub returns : goal.returns
returns c = tells_compensated c.args.standing.now c.args.r.now c.is_compensated.result (sym c.is_compensated.ensures)
