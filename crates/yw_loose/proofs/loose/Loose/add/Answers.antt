use Rattle.yw_loose.proofs.Sets.{gained}
use Rattle.yw_loose.proofs.loose.Loose.add.Goals as goal

pub returns-clause-ok : goal.returns-clause-ok
returns-clause-ok c = gained c.args.self.now c.insert.new.self c.args.id c.in_ok-insert.ensures.updates
