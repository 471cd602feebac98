use Rattle.std.proofs.Common.{◌≡◌, ℕ, Some, take}
use Rattle.yw_library.specs.Held.{IsHeld}
use Rattle.yw_restore.proofs.cases.gather_case.Given as goal
use Rattle.yw_restore.specs.Gathers.{Gathers}
use Rattle.yw_state.specs.Answers.{of_case}
use Rattle.yw_state.specs.State.{State}
use Rattle.yw_tree.specs.Cases.{case_at}

-- what stands at the identities so far is gathered
abbrev pub invariant-loop-at : goal.invariant-loop-at
invariant-loop-at l = (s : State) (n : ℕ) → IsHeld l.known l.forest s → case_at n l.forest.cases ≡ Some l.case
    → Gathers s (take l.at-index (of_case s n)) l.fn.lines l.lines
