use Rattle.std.proofs.Common.{◌≡◌, map, take}
use Rattle.yw_revive.proofs.names.add_persons.Given as goal
use Rattle.yw_revive.specs.Names.{person_of}

-- the persons of the rows so far
abbrev pub invariant-loop-row : goal.invariant-loop-row
invariant-loop-row l = l.library ≡ record l.fn.library { persons = map person_of (take l.row-index l.rows) }
