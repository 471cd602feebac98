use Rattle.std.proofs.Common.{refl}
use Rattle.yw_base.specs.Identity.{child}
use Rattle.yw_worklist.proofs.Warming.{none_so_far, one_more_added}
use Rattle.yw_worklist.proofs.warm.add_items.Goals as goal

pub loop-k-init : goal.loop-k-init
loop-k-init c = none_so_far (child c.args.net.now) c.args.first c.args.ids.now

pub loop-k-preserved : goal.loop-k-preserved
loop-k-preserved c =
    one_more_added (child c.args.net.now) c.args.first c.args.ids.now c.loop-k.ids c.add_item.new.ids c.loop-k.k _ refl c.loop-k.invariant c.in_ok-add_item.ensures
