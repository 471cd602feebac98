use Rattle.std.proofs.Common.{sym}
use Rattle.std.proofs.lemmas.Result.{on_ok_weaker}
use Rattle.yw_known.specs.Here.{as_item_at}
use Rattle.yw_restore.proofs.Growing.{none_more, one_more}
use Rattle.yw_restore.proofs.Here.{item_listed, no_item_listed}
use Rattle.yw_restore.proofs.gather.gather_item.Goals as goal
use Rattle.yw_restore.specs.Lines.{row_of_item}

pub returns : goal.returns
returns c =
    on_ok_weaker c.push.result (λ pushed s x held at.
    let is = c.in-Some.ensures s held in
    one_more row_of_item c.args.items.now c.push.new.self _ _ pushed
    (sym (item_listed s c.args.at.now x at (as_item_at c.args.known.now c.in-Some.here) is.at))) c.push.ensures.ok

pub returns-in_default : goal.returns-in_default
returns-in_default c = λ s x held at. none_more row_of_item c.args.items.now _ (no_item_listed s c.args.at.now x at (c.in_default.ensures s held))
