use Rattle.std.proofs.Common.{ap, map, sym, ◌∙◌, ◌≡◌}
use Rattle.std.specs.Prelude.{slice_get}
use Rattle.yw_nest.proofs.Results.{if_ok}
use Rattle.yw_state.proofs.Tests.{some_same}
use Rattle.yw_state.specs.ByName.{param_value}
use Rattle.yw_tree.proofs.Removed.{within}
use Rattle.yw_tree.specs.declared.NetState.{NetState, out-NetState}
use Rattle.yw_tree.specs.declared.Node.{out-Node}
use Rattle.yw_worklet.proofs.end.made_by_worklet.Goals as goal
use Rattle.yw_worklet.specs.Ends.{MadeByWorklet}
use Rattle.yw_worklet.specs.Named.{handed_back, returned_value}

pub net_numbered-net-requires : goal.net_numbered-net-requires
net_numbered-net-requires c =
    let m = c.requires.may in
    let nets = c.args.worklet.now.nets in
    let inner : c.net_there-inner.result.now ≡ m.inner = some_same _ _ (sym c.net_there-inner.ensures ∙ m.stands) in
    within nets (out-NetState c.net_there-inner.result.now).net m.net (ap (λ (u : NetState). slice_get nets (out-NetState u).net) inner ∙ m.of_net)

pub returns : goal.returns
returns c =
    let m = c.requires.may in
    let nets = c.args.worklet.now.nets in
    let task = c.args.item.now in
    let item : c.item_there.result.now ≡ m.item = some_same _ _ (sym c.item_there.ensures ∙ m.found) in
    let inner : c.net_there-inner.result.now ≡ m.inner = some_same _ _ (sym c.net_there-inner.ensures ∙ m.stands) in
    let net : c.net_numbered-net.result.now ≡ m.net = some_same _ _ (sym c.net_numbered-net.ensures ∙ ap (λ (u : NetState). slice_get nets (out-NetState u).net) inner ∙ m.of_net) in
    if_ok c.returned_values.result
    (λ made.
    made
    ≡ map (returned_value (handed_back c.net_numbered-net.result.now.vars (out-NetState c.net_there-inner.result.now).vals) (param_value task.ins (out-Node c.item_there.result.now).given)) task.outs)
    (MadeByWorklet c.args.forest.now task c.args.worklet.now c.args.j.now) c.returned_values.ensures
    (λ made is. record {
      may = m;
      values = is ∙ (λ i. map (returned_value (handed_back (net i).vars (out-NetState (inner i)).vals) (param_value task.ins (out-Node (item i)).given)) task.outs);
    })
