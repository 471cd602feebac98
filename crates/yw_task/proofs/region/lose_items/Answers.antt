use Rattle.std.proofs.Common.{None, rules, ◌≡◌}
use Rattle.std.specs.Prelude.{slice_get}
use Rattle.yw_task.proofs.TurnLaw.{items_go, no_items_go, no_list}
use Rattle.yw_task.proofs.region.lose_items.Goals as goal
use Rattle.yw_tree.specs.declared.NetState.{out-NetState}

pub returns-then-t-len-clause-turns : goal.returns-then-t-len-clause-turns
returns-then-t-len-clause-turns c = items_go c.args.state.now c.clear_task.new.net c.args.t c.clear_task.ensures.boxed c.clear_task.ensures.children c.clear_task.ensures.shows

pub returns-else-t-len-clause-turns : goal.returns-else-t-len-clause-turns
returns-else-t-len-clause-turns c =
    let none : slice_get (out-NetState c.args.state.now).items.items c.args.t ≡ None = no_list (out-NetState c.args.state.now).items.items c.args.t (search rules) in
    no_items_go c.args.state.now c.args.t none
