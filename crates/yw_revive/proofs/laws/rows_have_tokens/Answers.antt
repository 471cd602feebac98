use Rattle.yw_revive.proofs.TokenLemmas.{counts_back}
use Rattle.yw_revive.proofs.laws.rows_have_tokens.Goals as goal

pub returns : goal.returns
returns c = counts_back
