use Rattle.std.proofs.Common.{Some, subst, sym, ◌∙◌, ◌≡◌}
use Rattle.yw_nest.proofs.Known.{no_net_at}
use Rattle.yw_nest.proofs.SubBegins.{sub_started}
use Rattle.yw_nest.proofs.sub.start_sub.Goals as goal
use Rattle.yw_nest.specs.Items.{BeginsChild}
use Rattle.yw_state.proofs.Tests.{some_same}
use Rattle.yw_state.specs.declared.part.Stage.TheVariants.{Executing}
use Rattle.yw_tree.specs.Forest.{item_of}
use Rattle.yw_tree.specs.declared.Node.{out-Node}

pub returns-in-Some-clause-ok : goal.returns-in-Some-clause-ok
returns-in-Some-clause-ok c =
    let f = c.args.forest.now in
    let spec = c.args.spec.now in
    let j = c.args.j.now in
    let net = c.in_ok-net.net in
    let child : BeginsChild f spec j net.value = subst (BeginsChild f spec j) (sym c.in_ok-net.ensures.ok) c.in_ok-new_child.ensures in
    let node = c.in-Some.node.now in
    let found : item_of f j ≡ Some node = sym (rw c.in-Some.is at c.item_mut.ensures.value) in
    let same : node ≡ child.place.item = some_same node child.place.item (sym found ∙ child.place.found) in
    sub_started f c.requires.boxed spec j c.item_mut.ensures.identity net child (no_net_at f c.requires.boxed j child.place.item child.place.found c.requires.may.vacant)
    c.begin.new.node (c.begin.ensures ∙ (λ i. record (out-Node (same i)) { stage = Executing; net = Some net }))
