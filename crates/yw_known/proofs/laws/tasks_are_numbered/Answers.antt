use Rattle.yw_known.proofs.Judging.{item_numbered, task_numbered}
use Rattle.yw_known.proofs.laws.tasks_are_numbered.Goals as goal

pub returns-clause-tasks : goal.returns-clause-tasks
returns-clause-tasks c = λ known f s i h t task is at. task_numbered known f s i h is t task at

pub returns-clause-items : goal.returns-clause-items
returns-clause-items c = λ known f s j h is. item_numbered known f s j h is
