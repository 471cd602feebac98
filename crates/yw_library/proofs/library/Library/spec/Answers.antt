use Rattle.std.proofs.Common.{ℕ, List, Some, sym, ap, subst, ◌∙◌}
use Rattle.std.specs.Prelude.{All, slice_get, ◌≡◌}
use Rattle.std.specs.Option.{option_copied}
use Rattle.yw_library.specs.Holdings.{Holdings, SaysItsText, spec_name}
use Rattle.yw_library.specs.Numbers.{AreFound, IsNumberOf, NoneNamed}
use Rattle.yw_library.proofs.HoldingsLemmas.{all_at, spec-found, spec-missing}
use Rattle.yw_library.proofs.library.Library.spec.Goals as goal

pub returns-in_err-number : goal.returns-in_err-number
returns-in_err-number c =
    let library = c.args.self.now in
    let none = subst (λ (name : List ℕ). NoneNamed spec_name library.specs name) c.as_str.ensures.text c.in_err-number.ensures in
    rw c.from_residual.ensures (spec-missing library c.args.name.now none)

pub returns-in-Some : goal.returns-in-Some
returns-in-Some c =
    let library = c.args.self.now in
    let i = c.in_ok-number.number in
    let l = c.in-Some.loaded.now in
    let found = subst (λ (h : Holdings). AreFound spec_name h.specs c.self.inside.spec_numbers) c.self.view_is c.self.invariant.specs_found in
    let at = subst (λ (h : Holdings). slice_get h.specs i ≡ Some l) c.self.view_is (sym c.get.ensures ∙ ap option_copied c.in-Some.is) in
    let one = subst (λ (name : List ℕ). IsNumberOf spec_name library.specs name (Some i)) c.as_str.ensures.text c.in_ok-number.ensures in
    let all = subst (λ (h : Holdings). All SaysItsText h.specs) c.self.view_is c.self.invariant.accepted in
    record {
      text = l.text;
      kept = spec-found library c.self.inside.spec_numbers c.args.name.now i l found at one;
      stands = at;
      accepted = all_at SaysItsText library.specs i l all at;
    }
