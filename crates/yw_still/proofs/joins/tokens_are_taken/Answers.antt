use Rattle.yw_still.proofs.Joining as joining
use Rattle.yw_still.proofs.joins.tokens_are_taken.Goals as goal

pub returns : goal.returns
returns c = λ g s i before. (joining.can_join s i before g, λ some. joining.joins_tokens s i before g some.0 some.1)
