use Rattle.std.proofs.Common.{sym}
use Rattle.yw_loose.proofs.Following.{leaves_follows, one_follows}
use Rattle.yw_loose.proofs.counts.Counts.go_on.Goals as goal
use Rattle.yw_tree.proofs.OnResults.{on_ok}

pub returns-in-Some : goal.returns-in-Some
returns-in-Some c =
    on_ok c.add_one.result _ _ c.add_one.ensures
    (one_follows c.args.forest.now c.args.event.now c.in-Some.item.now c.args.self.now c.leave.new.self c.add_one.new.self (sym c.in-Some.ensures)
    c.in_ok-leave.ensures)

pub returns-in-None : goal.returns-in-None
returns-in-None c =
    leaves_follows c.args.forest.now c.args.event.now c.args.self.now c.leave.new.self (sym c.in-None.ensures) c.in_ok-leave.ensures
