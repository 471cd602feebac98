use Rattle.std.proofs.Common.{ℕ, List, sym, ap, subst, ◌∙◌}
use Rattle.yw_state.specs.Events.{Leads, after}
use Rattle.yw_state.specs.State.{State}
use Rattle.yw_state.specs.Texts.{a_spec}
use Rattle.yw_state.specs.declared.event.Event.TheVariants as events
use Rattle.yw_texts.specs.Texts.{reader}
use Rattle.yw_texts.proofs.Loading.{load_leads}
use Rattle.yw_library.specs.Holdings.{with_library}
use Rattle.yw_library.proofs.HoldingsLemmas.{spec-free, state-with_spec}
use Rattle.yw_library.proofs.library.Library.keep_fresh.Goals as goal

pub returns-clause-leads : goal.returns-clause-leads
returns-clause-leads c = λ s.
    let library = c.args.self.now in
    let text = c.args.text.now in
    let spec = c.args.spec in
    let free = spec-free s library spec.name c.requires.new in
    let reached = ap (with_library s) c.in_ok-keep.ensures.ok
    ∙ state-with_spec s library (record { text = c.in_ok-text.text; spec = spec }) free
    ∙ ap (λ (t : List ℕ). after (with_library s library) (events.Load spec.name t) (a_spec spec)) c.in_ok-text.ensures in
    subst (λ (t : State). Leads reader (with_library s library) (events.Load spec.name text) t) (sym reached)
    (load_leads (with_library s library) text spec c.requires.accepted free)
