use Rattle.yw_build.proofs.RowLemmas.{rows_next}
use Rattle.yw_build.proofs.rows.places_before.Goals as goal

pub loop-flow-preserved : goal.loop-flow-preserved
loop-flow-preserved c =
    let net = c.args.numbers.now.said.now in
    rows_next net (λ flow. flow.to) net.flows c.as_slice-flow-items.result.now c.loop-flow.flow-index c.as_str.result.now c.flow-item.result c.loop-flow.rows.items c.add_place.new.rows.items c.as_slice-flow-items.ensures c.loop-flow-test.true c.flow-item.is c.as_str.ensures c.loop-flow.invariant c.in_ok-add_place.ensures
