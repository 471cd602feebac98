use Rattle.std.proofs.Common.{subst}
use Rattle.yw_cases.proofs.cases.Cases.may_numbered.Goals as goal
use Rattle.yw_cases.specs.Tried.{TellsNumbered}
use Rattle.yw_standing.specs.declared.standing.Standing.{Standing}

pub returns : goal.returns
returns c = subst (λ (h : Standing). TellsNumbered h c.args.event.now c.may_numbered.result) c.self.view_is c.may_numbered.ensures
