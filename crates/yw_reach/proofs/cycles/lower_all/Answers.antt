use Rattle.std.proofs.Common.{List, ℕ, sym, subst, arith}
use Rattle.std.proofs.lemmas.List.{take_more}
use Rattle.yw_reach.specs.Trimming.{Lowers}
use Rattle.yw_reach.proofs.TrimmingLemmas.{lowers_join, lowers_none, some_left_at}
use Rattle.yw_reach.proofs.cycles.lower_all.Goals as goal

pub loop-node-init : goal.loop-node-init
loop-node-init c = lowers_none _ _

pub lower-requires : goal.lower-requires
lower-requires c = some_left_at c.args.row.now c.loop-node.node-index (omega arith) _ _ _ _ c.requires c.loop-node.invariant

pub loop-node-preserved : goal.loop-node-preserved
loop-node-preserved c =
    let P : List ℕ → Type 0 = λ r. Lowers r c.args.trimming.now.incoming.items c.args.trimming.now.free.items c.lower.new.trimming.incoming.items c.lower.new.trimming.free.items in
    subst P (sym (take_more c.args.row.now c.loop-node.node-index 0 (omega arith))) (lowers_join _ _ _ _ _ _ _ _ c.loop-node.invariant c.in_ok-lower.ensures)
