use Rattle.yw_journal.proofs.Contents as contents
use Rattle.yw_journal.proofs.laws.held_content_once.Goals as goal

pub returns : goal.returns
returns c = contents.held_content_once
