use Rattle.yw_path.proofs.ClosureLemmas.{Closing}
use Rattle.yw_path.proofs.closure.close.Given as goal

abbrev pub invariant-loop-k : goal.invariant-loop-k
invariant-loop-k l = Closing l.k l.fn.rows.items l.rows.items
