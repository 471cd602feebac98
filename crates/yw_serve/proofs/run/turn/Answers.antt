use Rattle.std.proofs.Common.{◌<◌, ◌∙◌, arith}
use Rattle.yw_outside.proofs.Reading.{consumes_none}
use Rattle.yw_serve.specs.Session.{with_steps}
use Rattle.yw_serve.proofs.Reading.{all_answered, read_failed, read_all, stopped_at_end, read_on, stopped_in_piece}
use Rattle.yw_serve.proofs.run.turn.Goals as goal

pub returns-in-Err-clause-ends : goal.returns-in-Err-clause-ends
returns-in-Err-clause-ends g c = λ tells content s bytes start well h.
    let D = g.D.Desk in
    read_failed D content s start c.args.session.now _ _ bytes _ _ c.args.desk.now h c.requires.within c.in-Err.ensures.bytes

pub returns-in-Ok-finish-clause-ends : goal.returns-in-Ok-finish-clause-ends
returns-in-Ok-finish-clause-ends g c = λ tells content s bytes start well h.
    let D = g.D.Desk in
    let desk = c.args.desk.now in
    let zero = c.if-count-eq0.true in
    let left = g.S.Source.left c.read_piece.new.source in
    let none = consumes_none _ _ c.read_piece.new.piece c.in-Ok.count zero c.in-Ok.ensures.bytes.0 in
    let a = all_answered D content s start c.args.session.now _ _ bytes _ left desk h c.requires.within in
    read_all D content s start c.args.session.now _ _ bytes _ _ desk h c.requires.within none (c.in-Ok.ensures.bytes.1 zero) _ _ c.finish.new.desk c.in-Ok-finish.ensures.keeps.file c.in-Ok-finish.ensures.keeps.limit
    (c.in-Ok-finish.ensures.ok tells (with_steps content a.steps) h.taken a.are_done.file a.at)

pub returns-in-Err-finish-clause-ends : goal.returns-in-Err-finish-clause-ends
returns-in-Err-finish-clause-ends g c = λ tells content s bytes start well h.
    let D = g.D.Desk in
    let desk = c.args.desk.now in
    let zero = c.if-count-eq0.true in
    let left = g.S.Source.left c.read_piece.new.source in
    let none = consumes_none _ _ c.read_piece.new.piece c.in-Ok.count zero c.in-Ok.ensures.bytes.0 in
    let a = all_answered D content s start c.args.session.now _ _ bytes _ left desk h c.requires.within in
    stopped_at_end D content s start c.args.session.now _ _ bytes _ _ desk h c.requires.within none (c.in-Ok.ensures.bytes.1 zero) well c.in-Err-finish.stop _ c.finish.new.desk (c.in-Ok.ensures.piece ∙ zero)
    (c.in-Err-finish.ensures.err tells (with_steps content a.steps) h.taken a.are_done.file a.at)

pub returns-in-Ok-feed-clause-ends : goal.returns-in-Ok-feed-clause-ends
returns-in-Ok-feed-clause-ends g c = λ tells content s bytes start well h.
    let D = g.D.Desk in
    let desk = c.args.desk.now in
    let left = g.S.Source.left c.read_piece.new.source in
    let a = all_answered D content s start c.args.session.now _ _ bytes _ left desk h c.requires.within in
    read_on D content s start c.args.session.now _ _ bytes _ _ desk h c.requires.within c.read_piece.new.piece c.in-Ok.count c.min-kept.result
    c.in-Ok.ensures.count.1 c.in-Ok.ensures.count.0 c.min-kept.ensures c.in-Ok.ensures.bytes.0 c.feed.new.session c.feed.new.desk c.in-Ok-feed.ensures.keeps.file c.in-Ok-feed.ensures.keeps.limit
    (c.in-Ok-feed.ensures.ok tells (with_steps content a.steps) h.taken a.are_done.file a.at)

pub returns-in-Err-feed-clause-ends : goal.returns-in-Err-feed-clause-ends
returns-in-Err-feed-clause-ends g c = λ tells content s bytes start well h.
    let D = g.D.Desk in
    let desk = c.args.desk.now in
    let left = g.S.Source.left c.read_piece.new.source in
    let some : 0 < c.in-Ok.count = omega arith in
    let a = all_answered D content s start c.args.session.now _ _ bytes _ left desk h c.requires.within in
    stopped_in_piece D content s start c.args.session.now _ _ bytes _ _ desk h c.requires.within c.read_piece.new.piece c.in-Ok.count c.min-kept.result
    c.in-Ok.ensures.count.1 c.in-Ok.ensures.count.0 c.min-kept.ensures c.in-Ok.ensures.bytes.0 well c.in-Err-feed.stop _ c.feed.new.desk c.in-Ok.ensures.piece some
    (c.in-Err-feed.ensures.err tells (with_steps content a.steps) h.taken a.are_done.file a.at)
