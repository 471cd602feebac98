use Rattle.std.proofs.Common.{Some, subst, sym, ◌∙◌, ◌≡◌}
use Rattle.yw_nest.proofs.Known.{no_net_at}
use Rattle.yw_state.proofs.Tests.{some_same}
use Rattle.yw_state.specs.After.{without_check}
use Rattle.yw_state.specs.declared.part.Stage.TheVariants.{Executing}
use Rattle.yw_state.specs.declared.tree.TreeKind.TheVariants.{Select}
use Rattle.yw_tree.specs.Forest.{item_of}
use Rattle.yw_tree.specs.declared.Node.{out-Node}
use Rattle.yw_worklet.proofs.Chosen.{substituted}
use Rattle.yw_worklet.proofs.choose.substitute.Goals as goal
use Rattle.yw_worklet.specs.Chosen.{BeginsFor}
use Rattle.std.proofs.Common.{None}

pub returns-in-Some-clause-ok : goal.returns-in-Some-clause-ok
returns-in-Some-clause-ok c =
    let f = c.args.forest.now in
    let task = c.args.item.now in
    let worklet = c.args.worklet.now in
    let j = c.args.j.now in
    let net = c.in_ok-net.net in
    let by : BeginsFor f task worklet c.args.number j net.value = subst (BeginsFor f task worklet c.args.number j) (sym c.in_ok-net.ensures.ok) c.in_ok-new_worklet.ensures in
    let node = c.in-Some.node.now in
    let found : item_of f j ≡ Some node = sym (rw c.in-Some.is at c.item_mut.ensures.value) in
    let same : node ≡ by.item = some_same node by.item (sym found ∙ by.found) in
    substituted f c.requires.boxed task worklet c.args.number j c.item_mut.ensures.identity net by (no_net_at f c.requires.boxed j by.item by.found c.requires.may.vacant)
    c.begin.new.node (c.begin.ensures ∙ (λ i. record (out-Node (same i)) { stage = Executing; who = None; net = Some net; due = without_check Select (out-Node (same i)).due }))
