use Rattle.yw_answered.proofs.Runs as runs
use Rattle.yw_answered.proofs.run_keeps_well.Goals as goal

pub returns : goal.returns
returns c = runs.run_keeps_well
