use Rattle.std.proofs.Common.{arith}
use Rattle.yw_serve.proofs.Counting.{one_more, one_small}
use Rattle.yw_serve.specs.Summary.{is_finish}
use Rattle.yw_serve.proofs.summary.finished_in.Goals as goal

pub loop-event-preserved : goal.loop-event-preserved
loop-event-preserved c =
    let inv = c.loop-event.invariant in
    let i = c.loop-event.event-index in
    let one = c.one_if-count.ensures in
    record {
      count = one_more is_finish c.args.entry.now i c.event-item.result c.loop-event.count c.one_if-count.result _ c.loop-event-test.true c.event-item.is inv.count c.is_finish.ensures one;
      few = omega (arith, inv.few, one_small _ c.one_if-count.result one);
    }
