use Rattle.std.proofs.Common.{◌<◌, ◌+◌, List, ℕ, length, Vec, Global, ap, sym, ◌∙◌, subst, arith}
use Rattle.yw_reach.proofs.TrimmingLemmas.{AreFreeBelow, free_more, free_none, free_same}
use Rattle.yw_reach.proofs.cycles.free_nodes.Goals as goal
use Rattle.yw_reach.proofs.cycles.free_nodes.Goals.{then-left-eq0+in_ok-push, else-left-eq0}

pub loop-node-init : goal.loop-node-init
loop-node-init c =
    let P : List ℕ → Type 0 = λ free. AreFreeBelow c.args.incoming.now 0 free in
    subst P (sym c.new-free.ensures.items) (free_none c.args.incoming.now)

pub loop-node-preserved : goal.loop-node-preserved
loop-node-preserved c =
    let lt : c.loop-node.node < length c.args.incoming.now = omega arith in
    let P : List ℕ → Type 0 = λ free. AreFreeBelow c.args.incoming.now (c.loop-node.node + 1) free in
    elim c.if-left-eq0.branch [
      | then-left-eq0+in_ok-push w ↦ subst P (sym (ap (λ (v : Vec ℕ Global). v.items) w.free-is ∙ w.in_ok-push.ensures.items)) (free_more c.args.incoming.now c.loop-node.node c.loop-node.free.items lt c.loop-node.invariant w.if-left-eq0.true)
      | else-left-eq0 w ↦ subst P (sym (ap (λ (v : Vec ℕ Global). v.items) w.free-is)) (free_same c.args.incoming.now c.loop-node.node c.loop-node.free.items lt c.loop-node.invariant (omega (arith, w.if-left-eq0.false)))
    ]
