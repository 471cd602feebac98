use Rattle.yw_turns.proofs.RunningOut as running
use Rattle.yw_turns.proofs.turns_end.Goals as goal

pub returns : goal.returns
returns c = running.turns_end
