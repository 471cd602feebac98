use Rattle.std.proofs.Common.{subst}
use Rattle.yw_standing.specs.Tried.{TellsLeads}
use Rattle.yw_state.specs.declared.event.Event.TheVariants as events
use Rattle.yw_urgent.proofs.Lent.{compensated, goes_on}
use Rattle.yw_urgent.proofs.identity.compensated_at.Goals as goal

pub returns-then-not-may_compensated : goal.returns-then-not-may_compensated
returns-then-not-may_compensated c =
    let h = c.args.standing.now in
    let r = c.args.at.now in
    goes_on h r (subst (TellsLeads h (events.Compensated r)) c.if-not-may_compensated.true c.may_compensated.ensures)

pub returns : goal.returns
returns c =
    let h = c.args.standing.now in
    let r = c.args.at.now in
    compensated h r (subst (TellsLeads h (events.Compensated r)) c.if-not-may_compensated.false c.may_compensated.ensures) c.in_ok-copy.field-0 c.in_ok-copy.ensures
