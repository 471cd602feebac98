use Rattle.std.proofs.Common.{arith, length, sym, ◌<◌, ◌∙◌, ◌≤◌}
use Rattle.yw_loose.proofs.Following.{all_left, next_goes, next_stays}
use Rattle.yw_loose.proofs.counts.counts_left.Goals as goal

pub loop-t-preserved-then-is_active : goal.loop-t-preserved-then-is_active
loop-t-preserved-then-is_active c =
    next_stays c.args.net.now c.args.counts.items c.loop-t.t c.loop-t.counts.items c.loop-t.invariant (sym c.is_active.ensures ∙ c.if-is_active.true)

pub loop-t-preserved : goal.loop-t-preserved
loop-t-preserved c =
    let long = c.loop-t.invariant.long in
    let end = c.len-t-end.ensures in
    let less = c.loop-t-test.true in
    let within : c.loop-t.t < length c.loop-t.counts.items = omega arith in
    next_goes c.args.net.now c.args.counts.items c.loop-t.t c.loop-t.counts.items c.loop-t.invariant (sym c.is_active.ensures ∙ c.if-is_active.false) within

pub returns : goal.returns
returns c =
    let long = c.loop-t.invariant.long in
    let end = c.len-t-end.ensures in
    let past = c.loop-t-test.false in
    let all : length c.loop-t.counts.items ≤ c.loop-t.t = omega arith in
    all_left c.args.net.now c.args.counts.items c.loop-t.t c.loop-t.counts.items c.loop-t.invariant all
