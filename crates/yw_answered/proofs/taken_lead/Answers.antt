use Rattle.yw_answered.proofs.Runs as runs
use Rattle.yw_answered.proofs.taken_lead.Goals as goal

pub returns : goal.returns
returns c = runs.taken_lead
