use Rattle.yw_asked.proofs.TasksAsked as tasks
use Rattle.yw_asked.proofs.items.enter_has_event.Goals as goal

pub returns : goal.returns
returns g c = λ s who i t well holds. tasks.enter_has_event g.R.Reads.reader s well holds who i t
