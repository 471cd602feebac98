use Rattle.std.proofs.Common.{◌∙◌, Bool, ap, subst, sym}
use Rattle.yw_engine.proofs.engine.Engine.apply.Goals as goal
use Rattle.yw_engine.specs.Decides.{IsApplied}
use Rattle.yw_engine.specs.Held.{Held, state_of}
use Rattle.yw_standing.specs.declared.standing.Standing.{Standing}
use Rattle.yw_texts.specs.Texts.{reader}
use Rattle.yw_state.specs.Events.{Leads}

pub returns-in-Ok-false-clause-refused : goal.returns-in-Ok-false-clause-refused
returns-in-Ok-false-clause-refused c =
    let old = c.self.inside.work.standing in
    let event = c.args.event in
    let applied = subst (λ (b : Bool). IsApplied old event b c.apply_event.new.work.standing) c.in-Ok-false.field-0-test c.in-Ok-false.ensures.applied in
    let held : Standing → Held = λ standing. record { standing = standing; spent = c.self.inside.spent } in (
      c.placeless.ensures,
      λ t leads. applied.0 t (subst (λ (h : Held). Leads reader (state_of h) event t) (sym c.self.view_is) leads),
      ap held applied.1 ∙ c.self.view_is,
    )
