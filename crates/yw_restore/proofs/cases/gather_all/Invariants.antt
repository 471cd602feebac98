use Rattle.std.proofs.Common.{◌≡◌}
use Rattle.yw_library.specs.Held.{IsHeld}
use Rattle.yw_restore.proofs.Below.{lower, of_entry}
use Rattle.yw_restore.proofs.cases.gather_all.Given as goal
use Rattle.yw_restore.specs.Gathers.{Gathers}
use Rattle.yw_restore.specs.Lines.{no_lines}
use Rattle.yw_state.specs.Map.{entries}
use Rattle.yw_state.specs.State.{State}

-- what stands in the cases below the number is gathered
abbrev pub invariant-loop-n : goal.invariant-loop-n
invariant-loop-n l = (s : State) → IsHeld l.known l.forest s → Gathers s (lower of_entry l.n (entries s.sites)) no_lines l.lines
