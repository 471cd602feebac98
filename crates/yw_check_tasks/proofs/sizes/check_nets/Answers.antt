use Rattle.std.proofs.Common.{refl}
use Rattle.yw_accept.specs.Tasks.{NetIsSmall}
use Rattle.yw_accept.proofs.Loops.{passes, fails}
use Rattle.yw_check_tasks.proofs.sizes.check_nets.Goals as goal

pub returns-in-Some : goal.returns-in-Some
returns-in-Some c = fails NetIsSmall _ _ refl _ _ _ _ c.loop-net-test.true c.net-item.is c.loop-net.invariant c.in_ok-broken.ensures c.in-Some.is

pub loop-net-preserved : goal.loop-net-preserved
loop-net-preserved c = passes NetIsSmall _ _ refl _ _ _ c.loop-net-test.true c.net-item.is c.loop-net.invariant c.in_ok-broken.ensures c.in-None.is
