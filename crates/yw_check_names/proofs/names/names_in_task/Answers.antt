use Rattle.std.proofs.Common.{map, option_to_list}
use Rattle.yw_read.specs.declared.raw.RawIn.{RawIn}
use Rattle.yw_read.specs.declared.raw.RawOut.{RawOut}
use Rattle.yw_read.specs.declared.raw.RawSet.{RawSet}
use Rattle.yw_accept.specs.Faults.{in_net}
use Rattle.yw_accept.specs.Names.{IsUsable, AreNew}
use Rattle.yw_accept.specs.Order.{Check, Then, InOrder}
use Rattle.yw_check_names.proofs.Thens.{go}
use Rattle.yw_check_names.proofs.names.names_in_task.Goals as goal

pub returns : goal.returns
returns c =
    let net = c.args.net.now in
    let task = c.args.task.now in
    let role : Check = InOrder (IsUsable (in_net 1 net.name)) (option_to_list task.role) in
    let ins : Check = AreNew (in_net 1 net.name) (map (λ (p : RawIn). p.name) task.ins) in
    let outs : Check = AreNew (in_net 1 net.name) (map (λ (p : RawOut). p.name) task.outs) in
    let sets : Check = AreNew (in_net 1 net.name) (map (λ (s : RawSet). s.var) task.set) in
    let found = c.in_ok-found.found in
    go role (Then ins (Then outs sets)) c.in_ok-broken.field-0 found c.in_ok-broken.ensures c.in_default.not-Some
    (go ins (Then outs sets) c.in_ok-broken-2.field-0 found c.in_ok-broken-2.ensures c.in_default-2.not-Some
    (go outs sets c.in_ok-broken-3.field-0 found c.in_ok-broken-3.ensures c.in_default-3.not-Some c.in_ok-found.ensures))
