use Rattle.yw_idents.specs.Idents.{lent}
use Rattle.yw_worklist.proofs.Gathering.{Gathers}
use Rattle.yw_worklist.proofs.found.add_all.Given as goal

abbrev pub invariant-loop-id : goal.invariant-loop-id
invariant-loop-id l = Gathers (lent l.fn.ids.keys) (lent l.ids.keys) l.set.keys l.id-iterator
