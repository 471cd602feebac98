use Rattle.std.proofs.Common.{ℕ, List, Some, sym, subst}
use Rattle.std.proofs.lemmas.Result.{err_from_is_err_and}
use Rattle.yw_state.specs.Broken.{Breaks}
use Rattle.yw_state.specs.declared.command.Command.TheVariants as commands
use Rattle.yw_state.specs.declared.rule.Refusal.{Refusal}
use Rattle.yw_texts.specs.Texts.{reader}
use Rattle.yw_texts.proofs.Loading.{known_breaks}
use Rattle.yw_library.specs.Holdings.{spec_name, with_library}
use Rattle.yw_library.specs.Numbers.{IsNumberOf, NoneNamed}
use Rattle.yw_library.proofs.AcceptsLemmas.{unfit-breaks}
use Rattle.yw_library.proofs.HoldingsLemmas.{spec-known}
use Rattle.yw_library.proofs.library.Library.fresh.Goals as goal

pub returns-in_err-spec-clause-refused : goal.returns-in_err-spec-clause-refused
returns-in_err-spec-clause-refused c =
    let p = err_from_is_err_and c.from_residual.result c.from_residual.ensures.1 in
    rw (p.1, p.2) (unfit-breaks c.args.self.now c.args.text.now _ c.in_err-spec.ensures.refused)

pub returns-in-Some-clause-refused : goal.returns-in-Some-clause-refused
returns-in-Some-clause-refused c = λ s.
    let library = c.args.self.now in
    let text = c.args.text.now in
    let spec = c.in_ok-spec.spec in
    let one = subst (λ (name : List ℕ). IsNumberOf spec_name library.specs name (Some c.in-Some.field-0)) c.as_str.ensures.text c.in-Some.ensures in
    subst (λ (r : Refusal). Breaks reader (with_library s library) (commands.Load text) (Some r)) (sym c.placeless.ensures)
    (known_breaks (with_library s library) text spec c.in_ok-spec.ensures.ok (spec-known s library spec.name c.in-Some.field-0 one))

pub returns-in-None-clause-ok : goal.returns-in-None-clause-ok
returns-in-None-clause-ok c = record {
  accepted = c.in_ok-spec.ensures.ok;
  new = subst (λ (name : List ℕ). NoneNamed spec_name c.args.self.now.specs name) c.as_str.ensures.text c.in-None.ensures;
}
