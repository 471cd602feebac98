use Rattle.std.proofs.Common.{ap, map, sym, ◌∙◌, ◌≡◌}
use Rattle.std.specs.Prelude.{slice_get}
use Rattle.yw_nest.proofs.Known.{no_case}
use Rattle.yw_nest.proofs.Results.{if_ok}
use Rattle.yw_nest.proofs.sub.made_by_child.Goals as goal
use Rattle.yw_nest.specs.Items.{MadeByChild}
use Rattle.yw_nest.specs.Values.{made_value}
use Rattle.yw_state.proofs.Tests.{some_same}
use Rattle.yw_tree.proofs.Removed.{within}
use Rattle.yw_tree.specs.Places.{net_at}
use Rattle.yw_tree.specs.declared.NetState.{NetState, out-NetState}
use Rattle.yw_tree.specs.declared.Node.{out-Node}

pub parent-requires : goal.parent-requires
parent-requires c = no_case c.args.forest.now c.requires.boxed c.args.j.now c.requires.may.place.item c.requires.may.place.found

pub net_numbered-requires : goal.net_numbered-requires
net_numbered-requires c =
    let p = c.requires.may.place in
    let nets = c.args.spec.now.nets in
    let outer : c.net_there-outer.result.now ≡ p.outer = some_same _ _ (sym c.net_there-outer.ensures ∙ ap (net_at c.args.forest.now) c.in_ok-outer_at.ensures ∙ p.stands_in) in
    within nets (out-NetState c.net_there-outer.result.now).net p.net (ap (λ (u : NetState). slice_get nets (out-NetState u).net) outer ∙ p.of_net)

pub task_at-task-requires : goal.task_at-task-requires
task_at-task-requires c =
    let p = c.requires.may.place in
    let nets = c.args.spec.now.nets in
    let outer : c.net_there-outer.result.now ≡ p.outer = some_same _ _ (sym c.net_there-outer.ensures ∙ ap (net_at c.args.forest.now) c.in_ok-outer_at.ensures ∙ p.stands_in) in
    let item : c.item_there-item.result.now ≡ p.item = some_same _ _ (sym c.item_there-item.ensures ∙ p.found) in
    let net : c.net_numbered.result.now ≡ p.net = some_same _ _ (sym c.net_numbered.ensures ∙ ap (λ (u : NetState). slice_get nets (out-NetState u).net) outer ∙ p.of_net) in
    within c.net_numbered.result.now.tasks (out-Node c.item_there-item.result.now).task p.task ((λ i. slice_get (net i).tasks (out-Node (item i)).task) ∙ p.of_task)

pub net_numbered-child-requires : goal.net_numbered-child-requires
net_numbered-child-requires c =
    let m = c.requires.may in
    let nets = c.args.spec.now.nets in
    let inner : c.net_there-inner.result.now ≡ m.inner = some_same _ _ (sym c.net_there-inner.ensures ∙ m.stands) in
    within nets (out-NetState c.net_there-inner.result.now).net m.child (ap (λ (u : NetState). slice_get nets (out-NetState u).net) inner ∙ m.of_child)

pub returns : goal.returns
returns c =
    let m = c.requires.may in
    let p = m.place in
    let nets = c.args.spec.now.nets in
    let outer : c.net_there-outer.result.now ≡ p.outer = some_same _ _ (sym c.net_there-outer.ensures ∙ ap (net_at c.args.forest.now) c.in_ok-outer_at.ensures ∙ p.stands_in) in
    let item : c.item_there-item.result.now ≡ p.item = some_same _ _ (sym c.item_there-item.ensures ∙ p.found) in
    let net : c.net_numbered.result.now ≡ p.net = some_same _ _ (sym c.net_numbered.ensures ∙ ap (λ (u : NetState). slice_get nets (out-NetState u).net) outer ∙ p.of_net) in
    let task : c.task_at-task.result.now ≡ p.task = some_same _ _ (sym c.task_at-task.ensures ∙ (λ i. slice_get (net i).tasks (out-Node (item i)).task) ∙ p.of_task) in
    let inner : c.net_there-inner.result.now ≡ m.inner = some_same _ _ (sym c.net_there-inner.ensures ∙ m.stands) in
    let child : c.net_numbered-child.result.now ≡ m.child = some_same _ _ (sym c.net_numbered-child.ensures ∙ ap (λ (u : NetState). slice_get nets (out-NetState u).net) inner ∙ m.of_child) in
    if_ok c.made_values.result (λ made. made ≡ map (made_value c.net_numbered-child.result.now.vars (out-NetState c.net_there-inner.result.now).vals) c.task_at-task.result.now.outs)
    (MadeByChild c.args.forest.now c.args.spec.now c.args.j.now) c.made_values.ensures
    (λ made is. record { may = m; values = is ∙ (λ i. map (made_value (child i).vars (out-NetState (inner i)).vals) (task i).outs) })
