use Rattle.std.proofs.Common.{◌∙◌, ◌++◌, ap, append_assoc, map, subst, sym}
use Rattle.std.proofs.lemmas.Map.Iter.{rest_all, rest_more}
use Rattle.std.specs.Map.Iter.{deref_pair}
use Rattle.yw_library.specs.Holdings.{person_name}
use Rattle.yw_restore.proofs.InOrder.{persons_are}
use Rattle.yw_restore.proofs.order.person_lines.Goals as goal
use Rattle.yw_restore.specs.Lines.{row_of_person}
use Rattle.yw_restore.specs.Names.{AreNames, names_in, person_rows_at}
use Rattle.yw_sites.proofs.Each.{nil_right}

pub loop-name-preserved : goal.loop-name-preserved
loop-name-preserved c =
    let library = c.args.library.now in
    let old = map row_of_person c.loop-name.lines in
    let left = person_rows_at library (names_in c.next.new.self) in
    let turn = rest_more deref_pair c.loop-name.name-iterator c.next.new.self c.next.result _ c.in-Some.is c.next.ensures.steps in
    ap (λ z. z ++ left) c.in_ok-push_person.ensures ∙ append_assoc old _ left
    ∙ ap (λ z. old ++ person_rows_at library (names_in z)) (sym turn) ∙ c.loop-name.invariant

pub returns : goal.returns
returns c = λ s is.
    let library = c.args.library.now in
    let lines = map row_of_person c.loop-name.lines in
    let none = rest_all deref_pair c.loop-name.name-iterator c.next.new.self c.next.result c.in-None.is c.next.ensures.steps in
    let gives = c.into_iter-name-iterator.ensures.into_iter_gives in
    let entries = c.in_ok-items.field-0.entries in
    sym (nil_right lines) ∙ ap (λ z. lines ++ person_rows_at library (names_in z)) (sym none) ∙ c.loop-name.invariant
    ∙ ap (λ z. person_rows_at library (names_in z)) gives.0
    ∙ persons_are s library is entries gives.5 (subst (λ ps. AreNames (map person_name ps) entries) (c.as_slice.ensures
    ∙ c.persons.ensures) c.in_ok-items.ensures)
