use Rattle.std.proofs.Common.{Option, inl, subst}
use Rattle.yw_accept.specs.declared.broken.Broken.{Broken}
use Rattle.yw_accept.specs.Graph.{ChildrenFit}
use Rattle.yw_accept.specs.Order.{InOrder}
use Rattle.yw_accept.proofs.FactsLemmas.{is_named}
use Rattle.yw_check_graph.specs.Nets.{NetChildrenFit, NetIsReached}
use Rattle.yw_accept.proofs.Loops.{then_second}
use Rattle.yw_check_graph.proofs.children.children_fit.Goals as goal

pub net_graph-requires : goal.net_graph-requires
net_graph-requires c = is_named c.args.raw.now c.requires

pub check_tasks-requires-clause-named : goal.check_tasks-requires-clause-named
check_tasks-requires-clause-named c = is_named c.args.raw.now c.requires

pub check_nets-requires-clause-named : goal.check_nets-requires-clause-named
check_nets-requires-clause-named c = is_named c.args.raw.now c.requires

pub returns-in-Some : goal.returns-in-Some
unfolding ChildrenFit
returns-in-Some c =
    let P : Option Broken → Type 0 = λ found. InOrder (NetChildrenFit c.args.raw.now) c.args.raw.now.net found in
    inl (subst P c.in-Some.is (c.in_ok-broken.ensures))

pub returns : goal.returns
unfolding ChildrenFit
returns c =
    let P : Option Broken → Type 0 = λ found. InOrder (NetChildrenFit c.args.raw.now) c.args.raw.now.net found in
    then_second (InOrder (NetChildrenFit c.args.raw.now) c.args.raw.now.net) (InOrder (NetIsReached c.args.raw.now) c.args.raw.now.net)
    (subst P c.in-None.is (c.in_ok-broken.ensures)) c.in_ok-found-in-None.found (c.in_ok-found-in-None.ensures)
