use Rattle.std.proofs.Common.{List, ℕ, sym, subst, arith}
use Rattle.std.proofs.lemmas.List.{take_more}
use Rattle.yw_reach.specs.Search.{Visits}
use Rattle.yw_reach.proofs.SearchLemmas.{visits_join, visits_none}
use Rattle.yw_reach.proofs.search.visit_all.Goals as goal

pub loop-node-init : goal.loop-node-init
loop-node-init c = visits_none _ _

pub loop-node-preserved : goal.loop-node-preserved
loop-node-preserved c =
    let P : List ℕ → Type 0 = λ r. Visits r c.args.search.now.marks c.args.search.now.pending.items c.visit.new.search.marks c.visit.new.search.pending.items in
    subst P (sym (take_more c.args.row.now c.loop-node.node-index 0 (omega arith))) (visits_join _ _ _ _ _ _ _ _ c.loop-node.invariant c.in_ok-visit.ensures)
