use Rattle.std.proofs.Common.{◌≡◌, [], List, Bool, true, false, refl, sym, subst, arith}
use Rattle.std.specs.Vec.Iter.{into_iter_items}
use Rattle.yw_engine.specs.Held as engine
use Rattle.yw_state.specs.declared.event.Event.{Event}
use Rattle.yw_serve.specs.Opening.{AreApplied, IsApplied}
use Rattle.yw_serve.proofs.OpenEntries.{first_applied, first_stops, further_events, none_left}
use Rattle.yw_serve.proofs.opening_entries.apply_events.Goals as goal

pub returns-then-not-branch-clause-applied : goal.returns-then-not-branch-clause-applied
returns-then-not-branch-clause-applied c =
    let s = engine.state_of c.loop-event.engine in
    let t = engine.state_of c.apply_event.new.engine in
    let event = c.in-Some.event in
    let stops = subst (λ (b : Bool). IsApplied s event b t) c.if-not-branch.true c.in_ok-apply_event.ensures.applied in
    c.loop-event.invariant.2 false t
    (subst (λ (es : List Event). AreApplied s es false t) (sym c.in-Some.ensures.steps.0) (first_stops s event (into_iter_items c.next.new.self) t stops))

pub returns-clause-applied : goal.returns-clause-applied
returns-clause-applied c =
    let t = engine.state_of c.loop-event.engine in
    let none : into_iter_items c.loop-event.event-iterator ≡ [] = none_left (into_iter_items c.loop-event.event-iterator) (omega (arith, c.loop-event.event-iterator.rest.ok, c.in-None.ensures.steps.0)) in
    c.loop-event.invariant.2 true t (subst (λ (es : List Event). AreApplied t es true t) (sym none) refl)

pub loop-event-preserved : goal.loop-event-preserved
loop-event-preserved c =
    let s = engine.state_of c.loop-event.engine in
    let mid = engine.state_of c.apply_event.new.engine in
    let event = c.in-Some.event in
    let rest = into_iter_items c.next.new.self in
    let one = subst (λ (b : Bool). IsApplied s event b mid) c.if-not-branch.false c.in_ok-apply_event.ensures.applied in (
      tt,
      tt,
      λ allowed t others. c.loop-event.invariant.2 allowed t
          (subst (λ (es : List Event). AreApplied s es allowed t) (sym c.in-Some.ensures.steps.0) (first_applied s mid event rest allowed t one others)),
      further_events event rest (into_iter_items c.loop-event.event-iterator) c.in-Some.ensures.steps.0 c.loop-event.invariant.3,
    )
