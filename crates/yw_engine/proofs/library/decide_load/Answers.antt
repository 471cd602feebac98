use Rattle.std.proofs.Common.{List, subst, ℕ}
use Rattle.yw_engine.proofs.Loads.{load_decided}
use Rattle.yw_engine.proofs.library.decide_load.Goals as goal
use Rattle.yw_engine.specs.Decides.{IsDone}
use Rattle.yw_standing.specs.State.{state_of}
use Rattle.yw_texts.specs.Texts.{reader}
use Rattle.yw_state.specs.Events.{Leads}
use Rattle.yw_state.specs.declared.event.Event.TheVariants as events

pub returns-in-Ok : goal.returns-in-Ok
returns-in-Ok c =
    let old = c.args.work.now.standing in
    let mid = c.load.new.self in
    let leads = subst (λ (text : List ℕ). Leads reader (state_of old) (events.Load c.in-Ok.name text) (state_of mid)) c.as_str.ensures
    c.in-Ok.ensures.ok in
    let done : IsDone old (events.Load c.in-Ok.name c.args.toml) mid = record { leads = leads; stands = c.may_stand.ensures } in
    load_decided old mid c.behind.new.work.standing c.in_ok-behind-in-Ok.field-0 c.in-Ok.name c.args.toml done
    (c.in_ok-behind-in-Ok.ensures old done)
