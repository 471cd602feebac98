use Rattle.std.proofs.Common.{◌≡◌, Some, refl}
use Rattle.std.specs.Prelude.{slice_get}
use Rattle.yw_tree.specs.declared.NetState.{out-NetState}
use Rattle.yw_tree.specs.declared.Node.{out-Node}
use Rattle.yw_tree.proofs.Cleared.{read_row}
use Rattle.yw_tree.proofs.ItemAdded.{item_added}
use Rattle.yw_tree.proofs.nets.add_item.Goals as goal

pub returns : goal.returns
returns c =
    let s = c.args.net.now in
    let n = c.args.node in
    let t = (out-Node n).task in
    let v = c.index_mut.result.now in
    let at : slice_get (out-NetState s).items.items t ≡ Some v = read_row (out-NetState s).items.items t v c.requires.task_in c.index_mut.ensures.value in
    item_added s t v c.push.new.self n at c.in_ok-push.ensures.items c.requires.boxed c.requires.without_net c.requires.without_run refl c.requires.last
