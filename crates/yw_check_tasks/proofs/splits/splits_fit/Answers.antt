use Rattle.yw_accept.specs.Tasks.{SplitsFit}
use Rattle.yw_check_tasks.specs.Steps.{NetSplitsFit}
use Rattle.yw_accept.proofs.Loops.{passes, fails, none_fails}
use Rattle.yw_check_tasks.proofs.splits.splits_fit.Goals as goal

pub returns-in-Some : goal.returns-in-Some
unfolding SplitsFit
returns-in-Some c =
    fails NetSplitsFit _ _ c.as_slice-net-items.ensures _ _ _ _ c.loop-net-test.true c.net-item.is c.loop-net.invariant c.in_ok-broken.ensures c.in-Some.is

pub loop-net-preserved : goal.loop-net-preserved
loop-net-preserved c =
    passes NetSplitsFit _ _ c.as_slice-net-items.ensures _ _ _ c.loop-net-test.true c.net-item.is c.loop-net.invariant c.in_ok-broken.ensures c.in-None.is

pub returns : goal.returns
unfolding SplitsFit
returns c = none_fails NetSplitsFit _ _ c.as_slice-net-items.ensures _ c.loop-net-test.false c.loop-net.invariant
