use Rattle.yw_plain.proofs.Words as words
use Rattle.yw_plain.proofs.plain_words.Goals as goal

pub returns : goal.returns
returns c = words.words
