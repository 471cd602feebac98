use Rattle.std.proofs.Common.{ℕ, List, None, sym, subst}
use Rattle.std.proofs.lemmas.Result.{err_from_is_err_and}
use Rattle.yw_state.specs.Events.{Leads}
use Rattle.yw_state.specs.declared.event.Event.TheVariants as events
use Rattle.yw_texts.specs.Texts.{reader}
use Rattle.yw_texts.proofs.Loading.{new_unbroken}
use Rattle.yw_library.specs.Holdings.{with_library}
use Rattle.yw_library.proofs.AcceptsLemmas.{load-breaks-one, refused-only, still-refused}
use Rattle.yw_library.proofs.HoldingsLemmas.{spec-free}
use Rattle.yw_library.proofs.library.Library.load.Goals as goal

pub returns-in_err-spec-clause-refused : goal.returns-in_err-spec-clause-refused
returns-in_err-spec-clause-refused c =
    let p = err_from_is_err_and c.from_residual.result c.from_residual.ensures.1 in
    rw (p.1, p.2) (still-refused c.args.self.now c.args.text.now _ c.in_err-spec.ensures.refused)

pub returns-in_err-spec-clause-only : goal.returns-in_err-spec-clause-only
returns-in_err-spec-clause-only c =
    let p = err_from_is_err_and c.from_residual.result c.from_residual.ensures.1 in
    rw (p.1, p.2) (refused-only c.args.self.now c.args.text.now _ c.in_err-spec.ensures.refused)

pub returns-clause-ok : goal.returns-clause-ok
returns-clause-ok c = λ s.
    subst (λ (n : List ℕ). Leads reader (with_library s c.args.self.now) (events.Load n c.args.text.now) (with_library s c.keep_fresh.new.self))
    (sym c.in_ok-name.ensures) (c.in_ok-keep_fresh.ensures.leads s)

pub returns-clause-only : goal.returns-clause-only
returns-clause-only c = λ s found h.
    let u = with_library s c.args.self.now in
    let text = c.args.text.now in
    let spec = c.in_ok-spec.spec in
    let fresh = c.in_ok-spec.ensures.ok in
    load-breaks-one u text found None h (new_unbroken u text spec fresh.accepted (spec-free s c.args.self.now spec.name fresh.new))
