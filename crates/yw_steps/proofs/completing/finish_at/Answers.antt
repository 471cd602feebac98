use Rattle.std.proofs.Common.{Some, sym, ◌≡◌}
use Rattle.yw_steps.proofs.CompleteLaw.{completed}
use Rattle.yw_steps.proofs.completing.finish_at.Goals as goal
use Rattle.yw_tree.specs.Forest.{item_of}

pub returns : goal.returns
returns c = λ net.
    let f = c.args.forest.now in
    let j = c.args.j.now in
    let old = c.in-Some.node.now in
    let found : item_of f j ≡ Some old = sym (rw c.in-Some.is at c.item_mut.ensures.value) in
    completed f c.requires.boxed j c.item_mut.ensures.identity net c.args.out c.args.due old c.finish.new.node found c.finish.ensures
