use Rattle.std.proofs.Common.{sym}
use Rattle.yw_loose.proofs.Counting.{exited_right, followed_right}
use Rattle.yw_loose.proofs.counts.Counts.follow_net.Goals as goal
use Rattle.yw_tree.proofs.OnResults.{on_ok}

pub returns-in-Some : goal.returns-in-Some
returns-in-Some c =
    on_ok c.exit.result _ _ c.exit.ensures
    (exited_right c.args.forest.now c.args.event.now c.in-Some.net.now c.args.self.now c.exit.new.self (sym c.in-Some.ensures))

pub returns-in-None : goal.returns-in-None
returns-in-None c =
    on_ok c.go_on.result _ _ c.go_on.ensures
    (followed_right c.args.forest.now c.args.event.now c.args.self.now c.go_on.new.self c.requires (sym c.in-None.ensures))
