use Rattle.std.proofs.Common.{subst, sym, List, ◌+◌}
use Rattle.yw_known.proofs.Rows.{rows-push}
use Rattle.yw_known.proofs.upstreams.rows_of.Goals as goal
use Rattle.yw_known.specs.Upstreams.{HaveRows}
use Rattle.yw_path.specs.declared.upstream.Upstream.{Upstream}

pub loop-number-preserved : goal.loop-number-preserved
loop-number-preserved c =
    let specs = c.args.library.now.specs in
    let n = c.loop-number.number in
    subst (λ (rows : List (List Upstream)). HaveRows specs rows (n + 1)) (sym c.in_ok-push.ensures.ok)
    (rows-push specs c.loop-number.rows n c.in_ok-row_of.field-0 c.loop-number.invariant c.in_ok-row_of.ensures)
