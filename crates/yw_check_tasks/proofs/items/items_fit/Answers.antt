use Rattle.yw_accept.specs.Tasks.{ItemsFit}
use Rattle.yw_check_tasks.specs.Steps.{NetItemsFit}
use Rattle.yw_accept.proofs.Loops.{passes, fails, none_fails}
use Rattle.yw_check_tasks.proofs.items.items_fit.Goals as goal

pub returns-in-Some : goal.returns-in-Some
unfolding ItemsFit
returns-in-Some c =
    fails NetItemsFit _ _ c.as_slice-net-items.ensures _ _ _ _ c.loop-net-test.true c.net-item.is c.loop-net.invariant c.in_ok-broken.ensures c.in-Some.is

pub loop-net-preserved : goal.loop-net-preserved
loop-net-preserved c =
    passes NetItemsFit _ _ c.as_slice-net-items.ensures _ _ _ c.loop-net-test.true c.net-item.is c.loop-net.invariant c.in_ok-broken.ensures c.in-None.is

pub returns : goal.returns
unfolding ItemsFit
returns c = none_fails NetItemsFit _ _ c.as_slice-net-items.ensures _ c.loop-net-test.false c.loop-net.invariant
