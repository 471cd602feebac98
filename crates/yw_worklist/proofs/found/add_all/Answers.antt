use Rattle.std.proofs.Common.{subst, sym}
use Rattle.std.proofs.lemmas.Map.Iter.{rest_all, rest_more}
use Rattle.std.specs.Map.Iter.{deref}
use Rattle.yw_idents.specs.Idents.{lent}
use Rattle.yw_worklist.proofs.Gathering.{Gathers, gathers_all, gathers_more, gathers_none}
use Rattle.yw_worklist.proofs.found.add_all.Goals as goal

pub loop-id-init : goal.loop-id-init
loop-id-init c =
    let old = lent c.args.ids.now.keys in
    let keys = c.args.set.now.keys in
    subst (Gathers old old keys) (sym c.into_iter-id-iterator.ensures.into_iter_gives.0) (gathers_none old keys)

pub loop-id-preserved : goal.loop-id-preserved
loop-id-preserved c =
    gathers_more (lent c.args.ids.now.keys) c.args.set.now.keys c.loop-id.id-iterator c.next.new.self c.loop-id.ids.keys c.insert.new.self.keys c.in-Some.id
    (rest_more deref c.loop-id.id-iterator c.next.new.self c.next.result c.in-Some.id c.in-Some.is c.next.ensures.steps)
    c.in_ok-insert.ensures.keys c.loop-id.invariant

pub returns : goal.returns
returns c =
    gathers_all (lent c.args.ids.now.keys) (lent c.loop-id.ids.keys) c.args.set.now.keys c.loop-id.id-iterator
    (rest_all deref c.loop-id.id-iterator c.next.new.self c.next.result c.in-None.is c.next.ensures.steps) c.loop-id.invariant
