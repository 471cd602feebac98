use Rattle.std.proofs.Common.{List, sym, ap, subst, ◌∙◌}
use Rattle.yw_library.specs.Holdings.{Holdings, person_name, with_person}
use Rattle.yw_library.specs.Numbers.{NoneNamed}
use Rattle.yw_library.specs.declared.items.Person.{Person}
use Rattle.yw_library.proofs.HoldingsLemmas.{kept-push_person, kept-stale_person, put_person-push}
use Rattle.yw_library.proofs.library.Library.add.Goals as goal

pub invariant_of-self-in_err-push : goal.invariant_of-self-in_err-push
invariant_of-self-in_err-push c =
    let new = c.args.person in
    let none = subst (λ (l : Holdings). NoneNamed person_name l.persons new.name) (sym c.self.view_is) c.requires in
    rw (c.in_err-push.ensures.err, c.in_ok-put.ensures.ok, c.as_str.ensures.text) (kept-stale_person _ _ _ _ _ c.self.invariant new.name c.len-number.result none)

pub invariant_of-self-2 : goal.invariant_of-self-2
invariant_of-self-2 c =
    let new = c.args.person in
    let none = subst (λ (l : Holdings). NoneNamed person_name l.persons new.name) (sym c.self.view_is) c.requires in
    rw (c.in_ok-push.ensures.ok, c.in_ok-put.ensures.ok, c.as_str.ensures.text, c.len-number.ensures) (kept-push_person _ _ _ _ _ c.self.invariant new none)

pub returns-clause-ok : goal.returns-clause-ok
returns-clause-ok c =
    let new = c.args.person in
    let none = subst (λ (l : Holdings). NoneNamed person_name l.persons new.name) (sym c.self.view_is) c.requires in
    ap (λ (ps : List Person). record { persons = ps; specs = c.self.inside.specs; rules = c.self.inside.trees }) (c.in_ok-push.ensures.ok ∙ sym (put_person-push new c.self.inside.persons none))
    ∙ ap (λ (l : Holdings). with_person l new) c.self.view_is
