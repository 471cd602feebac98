use Rattle.std.proofs.Common.{ap, length, map, subst, sym, ℕ, ◌∙◌, ◌≡◌}
use Rattle.std.proofs.lemmas.Bool.{ltb-true}
use Rattle.std.specs.Prelude.{slice_get}
use Rattle.yw_nest.proofs.Results.{if_ok}
use Rattle.yw_nest.proofs.sub.new_child.Goals as goal
use Rattle.yw_nest.specs.Cases.{first_tokens}
use Rattle.yw_nest.specs.Items.{BeginsChild}
use Rattle.yw_nest.specs.Values.{begins_with}
use Rattle.yw_state.proofs.Tests.{some_same}
use Rattle.yw_state.specs.ByName.{first_values, param_value}
use Rattle.yw_state.specs.Nets.{child_net}
use Rattle.yw_state.specs.Values.{Row}
use Rattle.yw_tree.specs.Begins.{BeginsNet}
use Rattle.yw_tree.specs.Places.{net_at}
use Rattle.yw_tree.specs.declared.NetState.{NetState, out-NetState}
use Rattle.yw_tree.specs.declared.Node.{out-Node}

pub net_numbered-child-requires : goal.net_numbered-child-requires
net_numbered-child-requires c =
    let m = c.requires.may in
    let p = m.place in
    let nets = c.args.spec.now.nets in
    let outer : c.net_there-outer.result.now ≡ p.outer = some_same _ _ (sym c.net_there-outer.ensures ∙ ap (net_at c.args.forest.now) c.in_ok-outer_at.ensures ∙ p.stands_in) in
    let item : c.item_there-item.result.now ≡ p.item = some_same _ _ (sym c.item_there-item.ensures ∙ p.found) in
    let net : c.net_numbered.result.now ≡ p.net = some_same _ _ (sym c.net_numbered.ensures ∙ ap (λ (u : NetState). slice_get nets (out-NetState u).net) outer ∙ p.of_net) in
    let task : c.task_at-task.result.now ≡ p.task = some_same _ _ (sym c.task_at-task.ensures ∙ (λ i. slice_get (net i).tasks (out-Node (item i)).task) ∙ p.of_task) in
    let within = (m.within.nets (out-NetState p.outer).net p.net p.of_net).each_task (out-Node p.item).task p.task p.of_task in
    ltb-true c.child_net-k.result (length nets) (within.child c.child_net-k.result (sym (ap child_net task) ∙ c.child_net-k.ensures))

pub new_net-requires : goal.new_net-requires
new_net-requires c =
    let child = c.net_numbered-child.result.now in
    ltb-true child.input (length child.places) (c.requires.may.within.nets c.child_net-k.result child c.net_numbered-child.ensures).input

pub returns : goal.returns
returns c =
    let p = c.requires.may.place in
    let nets = c.args.spec.now.nets in
    let k = c.child_net-k.result in
    let child = c.net_numbered-child.result.now in
    let outer : c.net_there-outer.result.now ≡ p.outer = some_same _ _ (sym c.net_there-outer.ensures ∙ ap (net_at c.args.forest.now) c.in_ok-outer_at.ensures ∙ p.stands_in) in
    let item : c.item_there-item.result.now ≡ p.item = some_same _ _ (sym c.item_there-item.ensures ∙ p.found) in
    let net : c.net_numbered.result.now ≡ p.net = some_same _ _ (sym c.net_numbered.ensures ∙ ap (λ (u : NetState). slice_get nets (out-NetState u).net) outer ∙ p.of_net) in
    let task : c.task_at-task.result.now ≡ p.task = some_same _ _ (sym c.task_at-task.ensures ∙ (λ i. slice_get (net i).tasks (out-Node (item i)).task) ∙ p.of_task) in
    let vals : Row = first_values (param_value p.task.ins (out-Node p.item).given) child in
    let are : c.in_ok-vals.vals ≡ vals = c.in_ok-vals.ensures ∙ (λ i. map (begins_with (param_value (task i).ins (out-Node (item i)).given)) child.vars) in
    if_ok c.new_net.result (BeginsNet (out-NetState c.net_there-outer.result.now).spec k (first_tokens child) c.in_ok-vals.vals (length child.tasks))
    (BeginsChild c.args.forest.now c.args.spec.now c.args.j.now) c.new_net.ensures
    (λ s begins. record {
      place = p;
      number = k;
      child = child;
      of_task = sym (ap child_net task) ∙ c.child_net-k.ensures;
      of_spec = c.net_numbered-child.ensures;
      begins = subst (λ (z : ℕ). BeginsNet z k (first_tokens child) vals (length child.tasks) s) (ap (λ (u : NetState). (out-NetState u).spec) outer)
          (subst (λ (v : Row). BeginsNet (out-NetState c.net_there-outer.result.now).spec k (first_tokens child) v (length child.tasks) s) are begins);
    })
