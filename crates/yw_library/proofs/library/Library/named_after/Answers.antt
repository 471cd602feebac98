use Rattle.yw_library.proofs.TaskNames.{names_cases, names_tasks}
use Rattle.yw_library.proofs.library.Library.named_after.Goals as goal

pub returns-clause-cases : goal.returns-clause-cases
returns-clause-cases c = names_cases c.args.self.now.specs

pub returns-clause-tasks : goal.returns-clause-tasks
returns-clause-tasks c = names_tasks c.args.self.now.specs c.specs.ensures.accepted
