use Rattle.yw_path.proofs.DirectLemmas.{DirectBelow}
use Rattle.yw_path.proofs.direct.direct_rows.Given as goal

abbrev pub invariant-loop-t : goal.invariant-loop-t
invariant-loop-t l = DirectBelow l.net l.t l.into l.rows.items
