use Rattle.yw_known.proofs.Rows.{rows_known}
use Rattle.yw_known.proofs.known.Known.of.Goals as goal

pub invariant_of-result : goal.invariant_of-result
invariant_of-result c = rows_known c.args.library c.in_ok-rows.rows c.in_ok-rows.ensures c.are_named.ensures
