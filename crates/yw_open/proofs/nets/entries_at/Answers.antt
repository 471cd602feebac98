use Rattle.yw_open.proofs.AtNet.{sorted_tells}
use Rattle.yw_open.proofs.nets.entries_at.Goals as goal

pub returns : goal.returns
returns c =
    sorted_tells c.args.here.now c.in_ok-entries_in.field-0 c.by_name.result c.in_ok-entries_in.ensures c.by_name.ensures.moved
    c.by_name.ensures.sorted
