use Rattle.std.proofs.Common.{subst, take_all}
use Rattle.yw_worklist.proofs.Offering.{more_left, none_left}
use Rattle.yw_worklist.proofs.offers.Offers.withdraw.Goals as goal
use Rattle.yw_worklist.specs.Offers.{Turns, left}

pub loop-work-init : goal.loop-work-init
loop-work-init c = none_left c.args.self.now c.args.at.now c.args.after.now

pub loop-work-preserved : goal.loop-work-preserved
loop-work-preserved c =
    more_left c.args.before.now c.loop-work.work-index c.work-item.result c.loop-work-test.true c.work-item.is
    c.args.self.now c.loop-work.self c.withdraw_one.new.self c.args.at.now c.args.after.now c.loop-work.invariant c.in_ok-withdraw_one.ensures

pub returns : goal.returns
returns c =
    subst (λ opens. Turns c.args.self.now c.loop-work.self c.args.at.now (left opens c.args.after.now))
    (take_all c.loop-work.work-index c.args.before.now c.loop-work-test.false) c.loop-work.invariant
