use Rattle.yw_known.proofs.Rows.{row_pushed}
use Rattle.yw_known.proofs.upstreams.push_row.Goals as goal
use Rattle.yw_tree.proofs.OnResults.{on_ok}

pub returns : goal.returns
returns c =
    on_ok c.push.result _ _ c.push.ensures.ok (λ put specs l is known free.
    row_pushed specs c.args.library.now.specs c.args.rows.now c.push.new.self l c.in_ok-row.row c.len.result c.len.ensures is put c.in_ok-row.ensures known free)
