use Rattle.std.proofs.Common.{◌≡◌, ◌++◌, List}
use Rattle.yw_state.proofs.Entries.{IsIn}
use Rattle.yw_state.specs.Identity.{Ident}
use Rattle.yw_worklist.proofs.lists.Lists.look_all.Given as goal
use Rattle.yw_worklist.specs.Lists.{Looks}

-- those so far, and what is left
abbrev pub invariant-loop-at : goal.invariant-loop-at
invariant-loop-at l =
    (done : List Ident) × (done ++ l.at-iterator ≡ l.ids.keys) × Looks l.known l.forest l.fn.self l.self (λ s. IsIn done)
