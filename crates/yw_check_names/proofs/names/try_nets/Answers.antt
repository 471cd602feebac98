use Rattle.yw_accept.specs.Names.{NetNames}
use Rattle.yw_check_names.specs.Tried.{KnowsNets}
use Rattle.yw_check_names.proofs.Trying.{tried_more, tried_stops, none_found}
use Rattle.yw_check_names.proofs.names.try_nets.Goals as goal

pub returns-in-Some : goal.returns-in-Some
returns-in-Some c =
    tried_stops KnowsNets NetNames c.args.seen.now c.args.nets.now c.loop-net.seen c.try_net.new.seen c.loop-net.net-index c.net-item.result c.loop-net-test.true c.net-item.is
    c.loop-net.invariant c.in_ok-broken.field-0 c.in_ok-broken.ensures c.in-Some.broken c.in-Some.is

pub loop-net-preserved : goal.loop-net-preserved
loop-net-preserved c =
    tried_more KnowsNets NetNames c.args.seen.now c.args.nets.now c.loop-net.seen c.try_net.new.seen c.loop-net.net-index c.net-item.result c.loop-net-test.true c.net-item.is
    c.loop-net.invariant c.in_ok-broken.field-0 c.in_ok-broken.ensures (none_found c.in_ok-broken.field-0 c.in_default.not-Some)
