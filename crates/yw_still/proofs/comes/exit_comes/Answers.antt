use Rattle.yw_still.proofs.TasksGoOn as tasks
use Rattle.yw_still.proofs.comes.exit_comes.Goals as goal

pub returns : goal.returns
returns c = λ s i k x holds is may. tasks.left_comes s holds i k x is may
