use Rattle.yw_answered.proofs.Runs as runs
use Rattle.yw_answered.proofs.answers_keep_well.Goals as goal

pub returns : goal.returns
returns c = runs.answers_keep_well
