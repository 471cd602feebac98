use Rattle.std.proofs.Common.{List, Some, sym, ap, subst, ◌∙◌}
use Rattle.std.specs.Prelude.{slice_set}
use Rattle.yw_library.specs.Holdings.{Holdings, person_name, with_person}
use Rattle.yw_library.specs.Numbers.{IsNumberOf}
use Rattle.yw_library.specs.declared.items.Person.{Person}
use Rattle.yw_library.proofs.HoldingsLemmas.{put_person-set}
use Rattle.yw_library.proofs.library.Library.replace.Goals as goal

pub returns : goal.returns
returns c =
    let new = c.args.person in
    let n = c.args.number in
    let ps = c.self.inside.persons in
    let one = subst (λ (l : Holdings). IsNumberOf person_name l.persons new.name (Some n)) (sym c.self.view_is) c.requires in
    ap (λ (qs : List Person). record { persons = qs; specs = c.self.inside.specs; rules = c.self.inside.trees })
    (c.replaced.ensures ∙ ap (λ (qs : List Person). slice_set qs n new) c.replace-persons.ensures.value
    ∙ sym (put_person-set new ps c.self.inside.person_numbers n c.self.invariant.persons_found one))
    ∙ ap (λ (l : Holdings). with_person l new) c.self.view_is
