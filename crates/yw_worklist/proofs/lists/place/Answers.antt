use Rattle.yw_worklist.proofs.Placing.{put_nothing, put_some}
use Rattle.yw_worklist.proofs.lists.place.Goals as goal

pub returns-then-is_blank : goal.returns-then-is_blank
returns-then-is_blank c =
    let blank = c.is_blank.ensures c.if-is_blank.true in
    put_nothing c.args.places.now c.args.at.now c.args.opens c.args.marked c.requires blank.0 blank.1

pub returns : goal.returns
returns c =
    put_some c.args.places.now c.insert.new.self c.args.at.now c.in_ok-copy.field-0 c.args.opens c.args.marked c.in_ok-copy.ensures c.in_ok-insert.ensures.updates.0
