use Rattle.std.proofs.Common.{subst}
use Rattle.yw_idents.specs.Idents.{lent}
use Rattle.yw_worklist.proofs.Gathering.{InSome, admitted_gained}
use Rattle.yw_worklist.proofs.found.ids_for.Goals as goal
use Rattle.yw_worklist.specs.Offers.{Gains}

pub returns : goal.returns
returns c =
    let o = c.args.offers.now in
    let a = lent c.new-ids.result.keys in
    let b = lent c.add_all.new.ids.keys in
    let d = lent c.add_pool.new.ids.keys in
    let e = lent c.add_pools.new.ids.keys in
    admitted_gained o c.args.roles.now c.args.who.now a b d e c.in_ok-add_all.ensures c.in_ok-add_pool.ensures
    (subst (λ names. Gains d e (InSome o.roles.map names)) c.as_slice.ensures c.in_ok-add_pools.ensures)
