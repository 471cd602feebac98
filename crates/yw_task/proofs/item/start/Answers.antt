use Rattle.yw_task.proofs.Started.{started}
use Rattle.yw_task.proofs.item.start.Goals as goal

pub returns-clause-ok : goal.returns-clause-ok
returns-clause-ok c = started c.args.node.now c.begin.new.node c.args.who c.begin.ensures
