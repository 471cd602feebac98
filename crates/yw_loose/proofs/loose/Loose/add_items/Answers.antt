use Rattle.yw_loose.proofs.Moving.{item_more}
use Rattle.yw_loose.proofs.loose.Loose.add_items.Goals as goal

pub loop-k-preserved : goal.loop-k-preserved
loop-k-preserved c =
    item_more c.args.self.now c.loop-k.self c.add_item.new.self c.args.net.now c.args.first c.loop-k.k c.loop-k.invariant c.in_ok-add_item.ensures
