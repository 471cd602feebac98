use Rattle.std.proofs.Common.{take, ◌≡◌}
use Rattle.std.specs.Option.{option_copied}
use Rattle.std.specs.Prelude.{fold, slice_get}
use Rattle.yw_expr.proofs.row.found.Given as goal
use Rattle.yw_expr.specs.Rows.{put_in}

abbrev pub invariant-loop-put : goal.invariant-loop-put
invariant-loop-put l = option_copied l.found ≡ slice_get (fold put_in l.base (take l.put-index l.puts)) l.k
