use Rattle.std.proofs.Common.{Some, [], ap, length, refl, sym, ◌++◌, ◌∙◌, ◌∷◌, ◌≡◌}
use Rattle.std.proofs.Math.ListN.{length-set}
use Rattle.std.specs.Prelude.{slice_get}
use Rattle.std.specs.Vec.{with_item}
use Rattle.yw_task.proofs.Arriving.{put_at}
use Rattle.yw_task.proofs.coming.put_item.Goals as goal
use Rattle.yw_tree.proofs.Cleared.{read_row}
use Rattle.yw_tree.proofs.ItemAdded.{item_added}
use Rattle.yw_tree.specs.Shows.{row_or_none}
use Rattle.yw_tree.specs.declared.NetState.{NetState, NetState-F, out-NetState, out-roll-NetState}
use Rattle.yw_tree.specs.declared.Node.{Node, out-Node}
use Rattle.yw_tree.specs.declared.Run.{Run}

pub returns : goal.returns
returns c =
    let s = c.args.net.now in
    let n = c.args.node in
    let t = (out-Node n).task in
    let v = c.index_mut.result.now in
    let u = c.push.new.self in
    let at : slice_get (out-NetState s).items.items t ≡ Some v = read_row (out-NetState s).items.items t v c.requires.task_in c.index_mut.ensures.value in
    let is : u.items ≡ v.items ++ (n ∷ []) = c.in_ok-push.ensures.items in
    let opened : NetState-F NetState Node Run = record (out-NetState s) { items = with_item (out-NetState s).items t u } in
    record {
      adds = item_added s t v u n at is c.requires.boxed c.requires.without_net c.requires.without_run refl c.requires.last;
      lists = ap (λ (l : NetState-F NetState Node Run). length l.items.items) (out-roll-NetState opened) ∙ length-set (out-NetState s).items.items t u;
      row = ap (λ (l : NetState-F NetState Node Run). row_or_none (slice_get l.items.items t)) (out-roll-NetState opened)
          ∙ ap row_or_none (put_at (out-NetState s).items.items t v u at) ∙ is ∙ sym (ap (λ z. row_or_none z ++ (n ∷ [])) at);
    }
