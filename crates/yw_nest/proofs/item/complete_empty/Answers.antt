use Rattle.std.proofs.Common.{Some, sym, ◌≡◌}
use Rattle.yw_nest.proofs.ItemEnds.{emptied}
use Rattle.yw_nest.proofs.item.complete_empty.Goals as goal
use Rattle.yw_tree.specs.Forest.{item_of}

pub returns-in-Some : goal.returns-in-Some
returns-in-Some c =
    let f = c.args.forest.now in
    let j = c.args.j.now in
    let old = c.in-Some.node.now in
    let e : item_of f j ≡ Some old = sym (rw c.in-Some.is at c.item_mut.ensures.value) in
    emptied f j old c.end.new.node c.new.result c.new.ensures c.requires.boxed c.item_mut.ensures.identity e c.end.ensures
