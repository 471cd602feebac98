use Rattle.std.proofs.Common.{IfOk, subst, sym}
use Rattle.yw_engine.proofs.applying.apply_event.Goals as goal
use Rattle.yw_engine.specs.Decides.{IsApplied}
use Rattle.yw_state.specs.declared.event.Event.{Event}
use Rattle.yw_state.specs.declared.event.Event.TheVariants as events

pub returns-in-Load-clause-applied : goal.returns-in-Load-clause-applied
returns-in-Load-clause-applied c =
    let old = c.args.work.now.standing in
    let new = c.apply_load.new.work.standing in
    let result = c.apply_load.result in
    subst (λ (e : Event). IfOk result (λ leads. IsApplied old e leads new)) (sym c.in-Load.is)
    (subst (λ text. IfOk result (λ leads. IsApplied old (events.Load c.in-Load.name text) leads new)) c.as_str.ensures c.apply_load.ensures.applied)
