use Rattle.yw_path.proofs.ClosureLemmas.{AddsBelow}
use Rattle.yw_path.proofs.closure.join_where.Given as goal
use Rattle.yw_path.specs.Bits.{Has}

abbrev pub invariant-loop-t : goal.invariant-loop-t
invariant-loop-t l = AddsBelow l.t l.k (Has l.pivot) l.fn.rows.items l.rows.items
