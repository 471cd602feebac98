use Rattle.yw_breaks.proofs.Whole as whole
use Rattle.yw_breaks.proofs.laws.start_joins.Goals as goal
use Rattle.yw_texts.specs.Texts.{reader}

pub returns : goal.returns
returns c = whole.start_joins reader
