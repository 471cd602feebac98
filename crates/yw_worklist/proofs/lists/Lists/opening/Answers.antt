use Rattle.yw_worklist.proofs.Looking.{listed_at_first}
use Rattle.yw_worklist.proofs.lists.Lists.opening.Goals as goal

pub returns : goal.returns
returns c = listed_at_first c.blank.result c.blank.ensures
