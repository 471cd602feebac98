use Rattle.yw_open.proofs.nets.entries_in.Given as goal
use Rattle.yw_open.specs.Entries.{ListsBelow}

-- the entries of the tasks so far
abbrev pub invariant-loop-t : goal.invariant-loop-t
invariant-loop-t l = ListsBelow l.here l.t l.opens
