use Rattle.yw_answered.proofs.Reading as reading
use Rattle.yw_answered.proofs.texts_are_read.Goals as goal

pub returns : goal.returns
returns c = reading.reads_all
