use Rattle.yw_revive.proofs.TokenLemmas.{one_each, rows_back}
use Rattle.yw_revive.proofs.laws.tokens_have_rows.Goals as goal

pub returns : goal.returns
returns c = λ j ps rows. (one_each j ps rows, rows_back j ps rows)
