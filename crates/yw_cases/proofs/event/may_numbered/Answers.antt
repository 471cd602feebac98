use Rattle.std.proofs.Common.{subst, sym}
use Rattle.yw_cases.proofs.event.may_numbered.Goals as goal
use Rattle.yw_cases.specs.Tried.{TellsNumbered}
use Rattle.yw_state.specs.declared.event.Event.{Event}

pub returns-in-Launch : goal.returns-in-Launch
returns-in-Launch c = subst (λ (e : Event). TellsNumbered c.args.standing.now e c.may_launch.result) (sym c.in-Launch.is) c.may_launch.ensures

pub returns-in-Add : goal.returns-in-Add
returns-in-Add c = subst (λ (e : Event). TellsNumbered c.args.standing.now e c.may_add.result) (sym c.in-Add.is) c.may_add.ensures
