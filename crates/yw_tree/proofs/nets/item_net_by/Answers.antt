use Rattle.std.proofs.Common.{◌≡◌, Some, sym, ap, ◌∙◌}
use Rattle.std.specs.Option.{ghost_name_of}
use Rattle.yw_tree.specs.Forest.{item_of, item_part_replaced}
use Rattle.yw_tree.specs.Ways.{net_of_item}
use Rattle.yw_tree.proofs.PutBack.{put_back}
use Rattle.yw_tree.proofs.Same.{same_loan}
use Rattle.yw_tree.proofs.nets.item_net_by.Goals as goal

pub returns : goal.returns
returns c =
    let f = c.args.forest.now in
    let id = c.args.id.now in
    let n = c.in_ok-node.node.now in
    let e : item_of f id ≡ Some n = sym c.in_ok-node.ensures.value in (
      same_loan (ghost_name_of c.net_mut.result) _ _ _ _ (λ w. ap (item_part_replaced f id w) (sym e)) (put_back id n f e),
      record { writes_back = tt; value = c.net_mut.ensures.value ∙ ap net_of_item (sym e) },
    )
