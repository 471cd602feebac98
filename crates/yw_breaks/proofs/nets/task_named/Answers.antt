use Rattle.yw_breaks.proofs.Named.{named}
use Rattle.yw_breaks.proofs.nets.task_named.Goals as goal

pub returns-clause-some : goal.returns-clause-some
returns-clause-some c = named c.args.net.now c.args.name.now c.task_called.result c.task_called.ensures
