use Rattle.std.proofs.Common.{IfOk, subst}
use Rattle.yw_cases.proofs.cases.Cases.may.Goals as goal
use Rattle.yw_cases.specs.Tried.{TellsComputed}
use Rattle.yw_standing.specs.declared.standing.Standing.{Standing}

pub returns : goal.returns
returns c = subst (λ (h : Standing). IfOk c.may.result (TellsComputed h c.args.event.now)) c.self.view_is c.may.ensures
