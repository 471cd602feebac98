use Rattle.yw_nest.proofs.Results.{if_ok}
use Rattle.yw_state.specs.ByName.{param_value}
use Rattle.yw_tree.specs.declared.Node.{out-Node}
use Rattle.yw_worklet.proofs.choose.new_worklet.Goals as goal
use Rattle.yw_worklet.specs.Begins.{BeginsTop}
use Rattle.yw_worklet.specs.Chosen.{BeginsFor}

pub returns : goal.returns
returns c =
    let item = c.item_there.result.now in
    if_ok c.begin_top.result (BeginsTop c.args.worklet.now c.args.number (param_value c.args.item.now.ins (out-Node item).given))
    (BeginsFor c.args.forest.now c.args.item.now c.args.worklet.now c.args.number c.args.j.now) c.begin_top.ensures
    (λ s begins. record { item = item; found = c.item_there.ensures; begins = begins })
