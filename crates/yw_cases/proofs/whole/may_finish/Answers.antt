use Rattle.std.proofs.Common.{sym}
use Rattle.std.proofs.lemmas.Result.{IfOk-weaker}
use Rattle.yw_cases.proofs.Ending.{tells_finish}
use Rattle.yw_cases.proofs.whole.may_finish.Goals as goal

pub returns : goal.returns
returns c = IfOk-weaker c.case_ends.result _ _ (λ b e. tells_finish c.args.standing.now c.requires c.args.n b (sym e)) c.case_ends.ensures
