use Rattle.std.proofs.Common.{Option, ap, arith, below_more, length, subst}
use Rattle.std.specs.Prelude.{IfSome}
use Rattle.yw_enabled.proofs.first.first_entered.Goals as goal
use Rattle.yw_enabled.specs.Entered.{ComesIn, StaysOut}
use Rattle.yw_enabled.specs.declared.entered.Entering.{Entering}

pub returns-in-Some : goal.returns-in-Some
returns-in-Some c =
    let come = λ (o : Option Entering). IfSome o (ComesIn c.args.net.now c.args.state.now c.args.first c.args.chosen.now c.loop-t.t) in
    record {
      below = (let same = ap length c.as_slice-t-end.ensures in let less = c.loop-t-test.true in omega arith);
      comes = subst come c.in-Some.is c.in_ok-entering.ensures.some;
      earlier = c.loop-t.invariant;
    }

pub loop-t-preserved : goal.loop-t-preserved
loop-t-preserved c =
    below_more (λ k. StaysOut c.args.net.now c.args.state.now c.args.first c.args.chosen.now k) c.loop-t.t c.loop-t.invariant
    (c.in_ok-entering.ensures.none c.in_default.is)

pub returns : goal.returns
returns c = λ k l. let same = ap length c.as_slice-t-end.ensures in let all = c.loop-t-test.false in c.loop-t.invariant k (omega arith)
