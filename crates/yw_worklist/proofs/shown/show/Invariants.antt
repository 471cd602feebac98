use Rattle.std.proofs.Common.{take}
use Rattle.yw_library.specs.Held.{IsHeld}
use Rattle.yw_shown.specs.Shows.{ShowsEntries}
use Rattle.yw_state.specs.Answers.{of_case}
use Rattle.yw_state.specs.State.{State}
use Rattle.yw_worklist.proofs.shown.show.Given as goal

-- what stands at the identities so far is shown
abbrev pub invariant-loop-at : goal.invariant-loop-at
invariant-loop-at l = (s : State) → IsHeld l.known l.forest s → ShowsEntries s (take l.at-index (of_case s l.n)) l.shown
