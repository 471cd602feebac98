use Rattle.std.proofs.Common.{◌≡◌, List, get_or, subst, sym}
use Rattle.yw_read.specs.declared.raw.RawNet.{RawNet}
use Rattle.yw_accept.proofs.Loops.{fails, none_fails}
use Rattle.yw_check_graph.specs.Nets.{NetChildrenFit, TellsBack}
use Rattle.yw_check_graph.proofs.children.check_tasks.Goals as goal

pub check_net-requires-clause-back : goal.check_net-requires-clause-back
check_net-requires-clause-back c =
    let P : RawNet → Type 0 = λ net. TellsBack c.args.raw.now net c.in_ok-back.back in
    let Q : List RawNet → Type 0 = λ nets. c.net-item.result ≡ get_or nets c.loop-number.number c.net-item.result in
    subst P (sym (subst Q c.as_slice-net-items.ensures c.net-item.is)) (c.in_ok-back.ensures c.net-item.result)

pub returns-in-Some : goal.returns-in-Some
returns-in-Some c =
    fails (NetChildrenFit c.args.raw.now) c.args.raw.now.net c.as_slice-net-items.result.now c.as_slice-net-items.ensures
    c.loop-number.number c.net-item.result c.in_ok-check_net.field-0 c.in-Some.broken c.loop-number-test.true c.net-item.is c.loop-number.invariant
    (c.in_ok-check_net.ensures) c.in-Some.is

pub returns : goal.returns
returns c =
    none_fails (NetChildrenFit c.args.raw.now) c.args.raw.now.net c.as_slice-net-items.result.now c.as_slice-net-items.ensures
    c.loop-number.number c.loop-number-test.false c.loop-number.invariant
