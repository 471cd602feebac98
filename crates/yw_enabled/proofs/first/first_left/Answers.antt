use Rattle.std.proofs.Common.{ap, arith, below_more, false, length, subst, sym}
use Rattle.yw_enabled.proofs.first.first_left.Goals as goal
use Rattle.yw_enabled.specs.Left.{IsLeavingAs, LeavesAs, TellsRight}
use Rattle.yw_tree.specs.Shows.{items_in}

pub returns-in-Some-clause-first : goal.returns-in-Some-clause-first
returns-in-Some-clause-first c = λ tells.
    let right = subst (λ o. TellsRight o (items_in c.args.state.now c.loop-t.t)) (sym c.told_of.ensures) (tells c.loop-t.t) in
    record {
      below = (let same = ap length c.as_slice-t-end.ensures in let less = c.loop-t-test.true in omega arith);
      leaves = subst (LeavesAs c.args.net.now c.args.state.now c.loop-t.t) c.in-Some.is (c.in_ok-outcome.ensures right);
      first = c.loop-t.invariant tells;
    }

pub loop-t-preserved : goal.loop-t-preserved
loop-t-preserved c = λ tells.
    let right = subst (λ o. TellsRight o (items_in c.args.state.now c.loop-t.t)) (sym c.told_of.ensures) (tells c.loop-t.t) in
    below_more (λ k. IsLeavingAs c.args.net.now c.args.state.now k false) c.loop-t.t (c.loop-t.invariant tells)
    (subst (LeavesAs c.args.net.now c.args.state.now c.loop-t.t) c.in_default.is (c.in_ok-outcome.ensures right))

pub returns-clause-first : goal.returns-clause-first
returns-clause-first c = λ tells k l. let same = ap length c.as_slice-t-end.ensures in let all = c.loop-t-test.false in c.loop-t.invariant tells k (omega arith)
