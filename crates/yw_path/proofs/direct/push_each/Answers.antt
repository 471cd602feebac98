use Rattle.std.proofs.Common.{ℕ, ◌<◌, length, get_or, arith}
use Rattle.yw_path.proofs.DirectLemmas.{push_more}
use Rattle.yw_path.proofs.direct.push_each.Goals as goal

pub loop-c-preserved : goal.loop-c-preserved
loop-c-preserved c =
    let at_lt : get_or c.args.places.now c.loop-c.c-index 0 < length c.loop-c.into.items = omega (arith, c.requires c.loop-c.c-index 0 c.loop-c-test.true, c.loop-c.invariant.len) in
    push_more c.args.places.now c.loop-c.c-index c.args.t c.args.into.now.items c.loop-c.into.items c.index_mut.result.now c.push.new.self
    c.loop-c-test.true at_lt c.loop-c.invariant c.index_mut.ensures.value c.in_ok-push.ensures.ok
