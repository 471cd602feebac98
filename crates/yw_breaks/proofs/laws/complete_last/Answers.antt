use Rattle.yw_breaks.proofs.Whole as whole
use Rattle.yw_breaks.proofs.laws.complete_last.Goals as goal

pub returns : goal.returns
returns c = whole.complete_last
