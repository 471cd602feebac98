use Rattle.yw_answered.proofs.Runs as runs
use Rattle.yw_answered.proofs.lines_have_run.Goals as goal

pub returns : goal.returns
returns c = runs.lines_have_run
