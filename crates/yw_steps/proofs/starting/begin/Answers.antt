use Rattle.std.proofs.Common.{Some, sym, ◌≡◌}
use Rattle.yw_steps.proofs.StartLaw.{starts}
use Rattle.yw_steps.proofs.starting.begin.Goals as goal
use Rattle.yw_task.proofs.Started.{started}
use Rattle.yw_tree.specs.Forest.{item_of}

pub returns : goal.returns
returns c =
    let f = c.args.forest.now in
    let j = c.args.j.now in
    let old = c.in-Some.node.now in
    let found : item_of f j ≡ Some old = sym (rw c.in-Some.is at c.item_mut.ensures.value) in
    starts f c.requires.boxed j c.item_mut.ensures.identity old found c.args.who c.begin.new.node (started old c.begin.new.node c.args.who c.begin.ensures)
