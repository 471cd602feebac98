use Rattle.std.proofs.Common.{refl}
use Rattle.yw_wire.proofs.MemberLemmas.{value_put}
use Rattle.yw_wire.proofs.rows.by_name.Goals as goal

pub loop-value-preserved : goal.loop-value-preserved
loop-value-preserved c =
    value_put c.loop-value.map.entries _ _ _ c.as_slice-value-items.result.now c.loop-value.value-index c.value-item.result
    c.loop-value-test.true c.value-item.is c.as_str.ensures.text refl c.loop-value.invariant c.in_ok-insert.ensures.entries
