use Rattle.yw_answered.proofs.texts_are_read_once.Goals as goal
use Rattle.yw_texts.proofs.ReadingOnce.{reads_one}

pub returns : goal.returns
returns c = reads_one
