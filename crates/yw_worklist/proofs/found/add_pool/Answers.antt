use Rattle.yw_idents.specs.Idents.{lent}
use Rattle.yw_tree.proofs.OnResults.{on_ok}
use Rattle.yw_worklist.proofs.Gathering.{no_pool, pool_gained}
use Rattle.yw_worklist.proofs.found.add_pool.Goals as goal

pub returns-in-Some : goal.returns-in-Some
returns-in-Some c =
    on_ok c.add_all.result _ _ c.add_all.ensures
    (pool_gained c.args.pools.now.map c.args.by.now (lent c.args.ids.now.keys) (lent c.add_all.new.ids.keys) c.in-Some.set.now c.in-Some.ensures.value)

pub returns-in-None : goal.returns-in-None
returns-in-None c = no_pool c.args.pools.now.map c.args.by.now (lent c.args.ids.now.keys) (lent c.args.ids.now.keys) c.in-None.ensures.value
