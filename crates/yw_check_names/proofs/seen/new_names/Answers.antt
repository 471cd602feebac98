use Rattle.std.proofs.Common.{map}
use Rattle.yw_accept.specs.Faults.{in_net}
use Rattle.yw_accept.specs.Names.{IsNew}
use Rattle.yw_accept.proofs.Among.{name_at}
use Rattle.yw_check_names.specs.Seen.{Knows}
use Rattle.yw_check_names.proofs.Trying.{tried_more, tried_stops, none_found}
use Rattle.yw_check_names.proofs.seen.new_names.Goals as goal

pub returns-in-Some : goal.returns-in-Some
returns-in-Some g c =
    let of = g.T.Named.name_of in
    let at = name_at of c.args.items.now c.loop-item.item-index c.item-item.result c.name.result.now c.loop-item-test.true c.item-item.is c.name.ensures in
    tried_stops Knows (IsNew (in_net 1 c.args.net.now)) c.args.seen.now (map of c.args.items.now) c.loop-item.seen c.new_name.new.seen c.loop-item.item-index c.name.result.now at.0 at.1
    c.loop-item.invariant c.in_ok-broken.field-0 c.in_ok-broken.ensures c.in-Some.broken c.in-Some.is

pub loop-item-preserved : goal.loop-item-preserved
loop-item-preserved g c =
    let of = g.T.Named.name_of in
    let at = name_at of c.args.items.now c.loop-item.item-index c.item-item.result c.name.result.now c.loop-item-test.true c.item-item.is c.name.ensures in
    tried_more Knows (IsNew (in_net 1 c.args.net.now)) c.args.seen.now (map of c.args.items.now) c.loop-item.seen c.new_name.new.seen c.loop-item.item-index c.name.result.now at.0 at.1
    c.loop-item.invariant c.in_ok-broken.field-0 c.in_ok-broken.ensures (none_found c.in_ok-broken.field-0 c.in_default.not-Some)
