use Rattle.std.proofs.Common.{List, take, get_or, sym, subst, arith}
use Rattle.std.proofs.lemmas.List.{take_more}
use Rattle.yw_reach.specs.declared.flow.Flow.{Flow}
use Rattle.yw_reach.specs.Rows.{AreRows}
use Rattle.yw_reach.proofs.RowLemmas.{more_rows, no_rows}
use Rattle.yw_reach.proofs.rows.rows_of.Goals as goal

pub loop-flow-init : goal.loop-flow-init
loop-flow-init c = no_rows c.args.count c.in_ok-rows.rows.items c.in_ok-rows.ensures

pub loop-flow-preserved : goal.loop-flow-preserved
loop-flow-preserved c =
    let f : Flow = get_or c.args.flows.now c.loop-flow.flow-index (record { from = 0; to = 0 }) in
    let P : List Flow → Type 0 = λ fs. AreRows c.args.count fs c.put.new.rows.items in
    subst P (sym (take_more c.args.flows.now c.loop-flow.flow-index (record { from = 0; to = 0 }) (omega arith)))
    (more_rows c.args.count (take c.loop-flow.flow-index c.args.flows.now) f c.loop-flow.rows.items c.put.new.rows.items (c.requires c.loop-flow.flow-index _ (omega arith)).0 c.loop-flow.invariant c.in_ok-put.ensures)
