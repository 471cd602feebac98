use Rattle.std.proofs.Common.{ℕ, List, Some, sym, ap, subst, ◌∙◌}
use Rattle.std.specs.Prelude.{slice_get, ◌≡◌}
use Rattle.std.specs.Option.{option_copied}
use Rattle.yw_library.specs.Holdings.{Holdings, person_name}
use Rattle.yw_library.specs.Numbers.{AreFound, IsNumberOf, NoneNamed}
use Rattle.yw_library.proofs.HoldingsLemmas.{roles-found, roles-none}
use Rattle.yw_library.proofs.library.Library.roles.Goals as goal

pub returns-in_err-number : goal.returns-in_err-number
returns-in_err-number c =
    let library = c.args.self.now in
    let none = subst (λ (name : List ℕ). NoneNamed person_name library.persons name) c.as_str.ensures.text c.in_err-number.ensures in
    ap option_copied c.from_residual.ensures ∙ sym (roles-none library c.args.name.now none)

pub returns-in-Some : goal.returns-in-Some
returns-in-Some c =
    let library = c.args.self.now in
    let i = c.in_ok-number.number in
    let p = c.in-Some.person.now in
    let found = subst (λ (l : Holdings). AreFound person_name l.persons c.self.inside.person_numbers) c.self.view_is c.self.invariant.persons_found in
    let at = subst (λ (l : Holdings). slice_get l.persons i ≡ Some p) c.self.view_is (sym c.get.ensures ∙ ap option_copied c.in-Some.is) in
    let one = subst (λ (name : List ℕ). IsNumberOf person_name library.persons name (Some i)) c.as_str.ensures.text c.in_ok-number.ensures in
    sym (roles-found library c.self.inside.person_numbers c.args.name.now i p found at one)
