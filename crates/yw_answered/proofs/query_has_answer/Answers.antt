use Rattle.yw_answered.proofs.LinesAnswered as lines
use Rattle.yw_answered.proofs.query_has_answer.Goals as goal

pub returns : goal.returns
returns c = lines.query_has_answer
