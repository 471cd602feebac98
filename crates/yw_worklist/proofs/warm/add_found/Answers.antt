use Rattle.yw_tree.proofs.OnResults.{on_ok}
use Rattle.yw_worklist.proofs.Warming.{found_added, none_added}
use Rattle.yw_worklist.proofs.warm.add_found.Goals as goal

pub returns-in-Some : goal.returns-in-Some
returns-in-Some c =
    on_ok c.add.result _ _ c.add.ensures (found_added c.args.ids.now c.add.new.ids c.args.found c.in-Some.id c.in-Some.is)

pub returns-in-None : goal.returns-in-None
returns-in-None c = none_added c.args.ids.now c.args.found c.in-None.is
