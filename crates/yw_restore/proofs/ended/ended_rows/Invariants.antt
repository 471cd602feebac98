use Rattle.std.proofs.Common.{◌≡◌, map}
use Rattle.yw_library.specs.Ended.{ended_of}
use Rattle.yw_restore.proofs.Below.{lower, of_number}
use Rattle.yw_restore.proofs.ended.ended_rows.Given as goal
use Rattle.yw_restore.specs.Gathers.{AreDrawn}
use Rattle.yw_state.specs.Map.{entries}
use Rattle.yw_states.specs.States.{ended_row}

-- the rows of those below the number
abbrev pub invariant-loop-n : goal.invariant-loop-n
invariant-loop-n l = AreDrawn l.next (ended_of l.ended) → l.rows ≡ map ended_row (lower of_number l.n (entries (ended_of l.ended)))
