use Rattle.std.proofs.Common.{take}
use Rattle.yw_idents.specs.Idents.{lent}
use Rattle.yw_state.proofs.Entries.{IsIn}
use Rattle.yw_worklist.proofs.lists.Lists.look_each.Given as goal
use Rattle.yw_worklist.specs.Lists.{Looks}

abbrev pub invariant-loop-at : goal.invariant-loop-at
invariant-loop-at l = Looks l.known l.forest l.fn.self l.self (λ s. IsIn (lent (take l.at-index l.ids.items)))
