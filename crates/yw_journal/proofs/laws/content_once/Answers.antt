use Rattle.yw_journal.proofs.Contents as contents
use Rattle.yw_journal.proofs.laws.content_once.Goals as goal

pub returns : goal.returns
returns c = contents.content_once
