use Rattle.std.proofs.Common.{◌≡◌, Err, Some, ap, subst}
use Rattle.std.proofs.lemmas.Result.{IfOk-weaker}
use Rattle.yw_codec.proofs.Writable.{lead_all_writable, legal_few, legal_some}
use Rattle.yw_engine.specs.Answers.{IfRefused}
use Rattle.yw_engine.specs.Held as engine
use Rattle.yw_engine.specs.Held.{Held}
use Rattle.yw_engine.specs.declared.fault.Decided.{Decided}
use Rattle.yw_engine.specs.declared.fault.EngineFault.{EngineFault}
use Rattle.yw_model.specs.Run.{Entry}
use Rattle.yw_texts.specs.Texts.{reader}
use Rattle.yw_state.specs.Broken.{Breaks}
use Rattle.yw_state.specs.State.{State}
use Rattle.yw_state.specs.declared.rule.Refusal.{Refusal}
use Rattle.yw_turns.proofs.Entries.{legal_leads}
use Rattle.yw_serve.proofs.Planning.{accepted, refused_so}
use Rattle.yw_serve.proofs.plan.plan_command.Goals as goal

pub accept-requires-clause-some : goal.accept-requires-clause-some
accept-requires-clause-some c = legal_some reader _ c.args.command _ c.in-Ok.decided.quiet _ c.in-Ok.ensures.legal

pub accept-requires-clause-few : goal.accept-requires-clause-few
accept-requires-clause-few c = legal_few reader _ c.args.command _ c.in-Ok.decided.quiet _ c.in-Ok.ensures.legal

pub accept-requires-clause-writable : goal.accept-requires-clause-writable
accept-requires-clause-writable c =
    let d = c.in-Ok.decided in
    let s : State = engine.state_of c.args.office.now in
    let t : State = engine.state_of c.decide.new.self in
    lead_all_writable reader s d.events t c.in-Ok.ensures.built (legal_leads reader s c.args.command d.events d.quiet t c.in-Ok.ensures.legal)

pub returns-in-Ok : goal.returns-in-Ok
returns-in-Ok c =
    let d = c.in-Ok.decided in
    let s : State = engine.state_of c.args.office.now in
    let t : State = engine.state_of c.decide.new.self in
    let entry : Entry = record { events = d.events; quiet = d.quiet } in
    IfOk-weaker c.accept.result _ _ (λ plan plans. accepted s t c.args.n c.args.command entry plan c.accept.new.buffer.items c.in-Ok.ensures.legal plans) c.accept.ensures

pub returns-in-Err-Refused : goal.returns-in-Err-Refused
returns-in-Err-Refused c =
    let s : State = engine.state_of c.args.office.now in
    let t : State = engine.state_of c.decide.new.self in
    let refusal = c.in-Err-Refused.refusal in
    let was : Breaks reader s c.args.command (Some refusal) × (c.decide.new.self ≡ c.args.office.now) =
    subst (λ (f : EngineFault). IfRefused {A = Decided} (Err f) (λ (r : Refusal). Breaks reader s c.args.command (Some r) × (c.decide.new.self ≡ c.args.office.now)))
    c.in-Err-Refused.field-0-is c.in-Err-Refused.ensures.refused in
    IfOk-weaker c.refuse.result _ _ (λ plan plans.
    refused_so s t c.args.n c.args.command refusal plan c.args.buffer.now.items was.0 plans (ap (λ (h : Held). engine.state_of h) was.1)) c.refuse.ensures
