use Rattle.yw_told.proofs.Lines as lines
use Rattle.yw_told.proofs.lines_tell_steps.Goals as goal

pub returns : goal.returns
returns c = lines.line_tells
