use Rattle.std.proofs.Common.{◌≡◌, ◌+◌, arith, subst, take}
use Rattle.yw_state.specs.Identity.{same}
use Rattle.yw_worklist.proofs.Warming.{one_more_added}
use Rattle.yw_worklist.proofs.warm.add_way.Goals as goal
use Rattle.yw_worklist.specs.Touched.{Adds}

pub loop-k-preserved : goal.loop-k-preserved
loop-k-preserved c =
    let run = c.args.run.now in
    let k = c.loop-k.k in
    let next : k ≡ 0 + k = omega arith in
    one_more_added (λ n. take n run) 0 c.args.ids.now c.loop-k.ids c.add_front.new.ids k k next c.loop-k.invariant
    (subst (λ xs. Adds c.loop-k.ids c.add_front.new.ids (λ j. same j (take k xs))) c.numbers-numbers.ensures.numbers c.in_ok-add_front.ensures)
