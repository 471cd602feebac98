-- sessions_join
use Rattle.yw_answered.proofs.Sessions as sessions
use Rattle.yw_answered.proofs.sessions_join.Goals as goal

pub returns : goal.returns
returns c = sessions.sessions_join
