use Rattle.std.proofs.Common.{◌≡◌, ◌++◌}
use Rattle.std.specs.List.{flat_map}
use Rattle.yw_idents.specs.Idents.{lent}
use Rattle.yw_worklist.proofs.lists.Lists.rows.Given as goal
use Rattle.yw_worklist.specs.Rows.{rows_at}

-- those so far, and what is left
abbrev pub invariant-loop-at : goal.invariant-loop-at
invariant-loop-at l =
    l.rows ++ flat_map (rows_at l.self l.roles l.who) (lent l.at-iterator)
    ≡ l.initial.rows ++ flat_map (rows_at l.self l.roles l.who) (lent l.initial.at-iterator)
