use Rattle.std.proofs.Common.{List, Some, ap, subst, sym, ◌∙◌}
use Rattle.std.specs.Option.{option_copied}
use Rattle.std.specs.Prelude.{slice_get, ◌≡◌}
use Rattle.std.proofs.lemmas.Slice.Eq.{bytes_eq-Decides, slice_eq-Decides}
use Rattle.yw_library.specs.Holdings.{Holdings, person_name}
use Rattle.yw_library.specs.Numbers.{AreFound}
use Rattle.yw_library.specs.declared.items.Person.{Person}
use Rattle.yw_library.proofs.HoldingsLemmas.{put_person-same}
use Rattle.yw_library.proofs.library.Library.set_roles.Goals as goal

pub returns-in-Some-clause-ok : goal.returns-in-Some-clause-ok
returns-in-Some-clause-ok c =
    let library = c.args.self.now in
    let p = c.in-Some.person.now in
    let new : Person = record { name = c.args.name.now; roles = c.args.roles.now } in
    let found = subst (λ (l : Holdings). AreFound person_name l.persons c.self.inside.person_numbers) c.self.view_is c.self.invariant.persons_found in
    let at = subst (λ (l : Holdings). slice_get l.persons c.args.number ≡ Some p) c.self.view_is (sym c.get.ensures ∙ ap option_copied c.in-Some.is) in
    let roles = sym c.as_slice.ensures ∙ (slice_eq-Decides bytes_eq-Decides _ _ _ c.eq.ensures).0 c.if-eq.true ∙ c.as_slice-wanted.ensures in
    sym (ap (λ (ps : List Person). record { persons = ps; specs = library.specs; rules = library.rules })
    (put_person-same new p library.persons c.self.inside.person_numbers c.args.number found c.requires at roles))
