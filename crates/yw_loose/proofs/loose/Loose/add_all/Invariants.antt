use Rattle.std.proofs.Common.{take}
use Rattle.yw_idents.specs.Idents.{lent}
use Rattle.yw_loose.proofs.loose.Loose.add_all.Given as goal
use Rattle.yw_loose.specs.Loose.{HasAll}

abbrev pub invariant-loop-id : goal.invariant-loop-id
invariant-loop-id l = HasAll l.fn.self l.self (take l.id-index (lent l.idents.items))
