use Rattle.std.proofs.Common.{sym}
use Rattle.yw_cases.proofs.Ending.{tells_cancel}
use Rattle.yw_cases.proofs.whole.may_cancel.Goals as goal

pub returns : goal.returns
returns c = tells_cancel c.args.standing.now c.requires c.args.n c.case_stands.result (sym c.case_stands.ensures)
