use Rattle.yw_loose.proofs.Moving.{found_more, none_more}
use Rattle.yw_loose.proofs.loose.Loose.add_found.Goals as goal
use Rattle.yw_tree.proofs.OnResults.{on_ok}

pub returns-in-Some : goal.returns-in-Some
returns-in-Some c =
    on_ok c.add.result _ _ c.add.ensures.ok (found_more c.args.self.now c.add.new.self c.args.found c.in-Some.id c.in-Some.is)

pub returns-in-None : goal.returns-in-None
returns-in-None c = none_more c.args.self.now c.args.found c.in-None.is
