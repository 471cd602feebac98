use Rattle.std.proofs.Common.{subst, take_all}
use Rattle.yw_idents.specs.Idents.{lent}
use Rattle.yw_worklist.proofs.Gathering.{InSome, name_gained, no_names_gained}
use Rattle.yw_worklist.proofs.found.add_pools.Goals as goal
use Rattle.yw_worklist.specs.Offers.{Gains}

pub loop-by-init : goal.loop-by-init
loop-by-init c = no_names_gained c.args.pools.now.map (lent c.args.ids.now.keys)

pub loop-by-preserved : goal.loop-by-preserved
loop-by-preserved c =
    name_gained c.args.pools.now.map c.args.names.now c.loop-by.by-index c.by-item.result (lent c.args.ids.now.keys) (lent c.loop-by.ids.keys)
    (lent c.add_pool.new.ids.keys) c.loop-by-test.true c.by-item.is c.loop-by.invariant c.in_ok-add_pool.ensures

pub returns : goal.returns
returns c =
    subst (λ names. Gains (lent c.args.ids.now.keys) (lent c.loop-by.ids.keys) (InSome c.args.pools.now.map names))
    (take_all c.loop-by.by-index c.args.names.now c.loop-by-test.false) c.loop-by.invariant
