use Rattle.std.proofs.Common.{◌≡◌, ◌++◌, map}
use Rattle.yw_restore.proofs.order.person_lines.Given as goal
use Rattle.yw_restore.specs.Lines.{row_of_person}
use Rattle.yw_restore.specs.Names.{names_in, person_rows_at}

-- the rows of those so far, and of what is left
abbrev pub invariant-loop-name : goal.invariant-loop-name
invariant-loop-name l =
    map row_of_person l.lines ++ person_rows_at l.library (names_in l.name-iterator) ≡ person_rows_at l.library (names_in l.initial.name-iterator)
