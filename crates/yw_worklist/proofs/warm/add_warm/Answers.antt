use Rattle.std.proofs.Common.{sym}
use Rattle.yw_tree.proofs.OnResults.{on_ok}
use Rattle.yw_worklist.proofs.Warming.{warm_around, warm_nowhere}
use Rattle.yw_worklist.proofs.warm.add_warm.Goals as goal

pub returns-in-Some : goal.returns-in-Some
returns-in-Some c =
    on_ok c.add_around.result _ _ c.add_around.ensures
    (warm_around c.args.ids.now c.add_made.new.ids c.add_around.new.ids c.args.event.now c.in-Some.at.now (sym c.in-Some.ensures) c.in_ok-add_made.ensures)

pub returns-in-None : goal.returns-in-None
returns-in-None c = warm_nowhere c.args.ids.now c.add_made.new.ids c.args.event.now (sym c.in-None.ensures) c.in_ok-add_made.ensures
