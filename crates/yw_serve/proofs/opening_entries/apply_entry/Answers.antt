use Rattle.std.proofs.Common.{List, IfOk, subst, sym, true, ◌≡◌, rules}
use Rattle.std.specs.List.{list_all}
use Rattle.std.proofs.lemmas.Result.{IfOk-weaker}
use Rattle.yw_engine.specs.Held as engine
use Rattle.yw_built.specs.Built.{is_built}
use Rattle.yw_state.specs.State.{State}
use Rattle.yw_state.specs.declared.event.Event.{Event}
use Rattle.yw_serve.specs.Opening.{AreApplied}
use Rattle.yw_serve.proofs.OpenEntries.{by_answer, part_stops, none_stops}
use Rattle.yw_serve.proofs.opening_entries.apply_entry.Goals as goal

pub apply_events-requires : goal.apply_events-requires
apply_events-requires c = subst (λ (es : List Event). list_all is_built es ≡ true) (sym c.into_vec.ensures) c.in-Ok.ensures.built

pub returns-then-size-bytes : goal.returns-then-size-bytes
returns-then-size-bytes c =
    let s : State = engine.state_of c.args.engine.now in
    let t : State = engine.state_of c.apply_events.new.engine in
    let bytes = c.args.bytes.now in
    let is = c.in-Ok.ensures.ok in
    let all = c.if-size-bytes.true in
    IfOk-weaker c.apply_events.result _ _ (by_answer s t bytes c.in-Ok.size c.in-Ok.events is all)
    (subst (λ (es : List Event). IfOk c.apply_events.result (λ allowed. AreApplied s es allowed t)) c.into_vec.ensures c.apply_events.ensures.applied)

pub returns-else-size-bytes : goal.returns-else-size-bytes
returns-else-size-bytes c =
    let s : State = engine.state_of c.args.engine.now in
    part_stops s c.args.bytes.now c.in-Ok.size c.in-Ok.ensures.within c.if-size-bytes.false (λ es entry rest is e. (c.in-Ok.ensures.only es entry rest is e).1)

pub returns-in-Err-Bad : goal.returns-in-Err-Bad
returns-in-Err-Bad c =
    let s : State = engine.state_of c.args.engine.now in
    none_stops s c.args.bytes.now (c.in-Err-Bad.ensures.bad (search rules))
