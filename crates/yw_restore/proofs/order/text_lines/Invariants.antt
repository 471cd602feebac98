use Rattle.std.proofs.Common.{◌≡◌, ◌++◌, map}
use Rattle.yw_restore.proofs.order.text_lines.Given as goal
use Rattle.yw_restore.specs.Lines.{text_of_line}
use Rattle.yw_restore.specs.Names.{names_in, texts_at}

-- the rows of those so far, and of what is left
abbrev pub invariant-loop-name : goal.invariant-loop-name
invariant-loop-name l =
    map text_of_line l.lines ++ texts_at l.library (names_in l.name-iterator) ≡ texts_at l.library (names_in l.initial.name-iterator)
