use Rattle.yw_accept.specs.Built.{IsNet}
use Rattle.yw_build.proofs.ZipLemmas.{zip_next}
use Rattle.yw_build.proofs.nets.nets_of.Goals as goal

pub loop-net-preserved : goal.loop-net-preserved
loop-net-preserved c =
    zip_next (IsNet c.args.spec.now.said.now) c.args.spec.now.said.now.net c.as_slice-net-items.result.now c.loop-net.net-index c.net-item.result c.loop-net.nets c.push.new.self c.in_ok-net_of.field-0 c.as_slice-net-items.ensures
    c.loop-net-test.true c.net-item.is c.loop-net.invariant c.in_ok-push.ensures.ok c.in_ok-net_of.ensures
