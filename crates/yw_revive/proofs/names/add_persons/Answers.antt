use Rattle.std.proofs.Common.{◌≡◌, ◌∙◌, ◌+◌, List, ap, drop, map, sym, take}
use Rattle.yw_library.specs.Holdings.{Holdings, with_person}
use Rattle.yw_library.specs.declared.items.Person.{Person}
use Rattle.yw_revive.proofs.Lists.{at_split, taken_all, taken_more}
use Rattle.yw_revive.proofs.Persons.{next_person}
use Rattle.yw_revive.proofs.names.add_persons.Goals as goal
use Rattle.yw_revive.specs.Names.{person_of}

pub loop-row-init : goal.loop-row-init
loop-row-init c = ap (λ (ps : List Person). let l : Holdings = record c.args.library.now { persons = ps } in l) c.requires.nobody

pub loop-row-preserved : goal.loop-row-preserved
loop-row-preserved c =
    let rows = c.args.rows.now in
    let i = c.loop-row.row-index in
    let row = c.row-item.result in
    let old = c.args.library.now in
    c.in_ok-person.ensures.place ∙ ap (λ (l : Holdings). with_person l (person_of row)) c.loop-row.invariant
    ∙ ap (λ (ps : List Person). let l : Holdings = record old { persons = ps } in l)
    (next_person rows (take i rows) (drop (i + 1) rows) row (at_split rows i row c.loop-row-test.true c.row-item.is) c.requires.up
    ∙ ap (map person_of) (sym (taken_more rows i row c.loop-row-test.true c.row-item.is)))

pub returns : goal.returns
returns c =
    let rows = c.args.rows.now in
    c.loop-row.invariant
    ∙ ap (λ rs. let l : Holdings = record c.args.library.now { persons = map person_of rs } in l) (taken_all rows c.loop-row.row-index c.loop-row-test.false)
