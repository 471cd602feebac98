use Rattle.yw_path.proofs.WaitLemmas.{fills, waits}
use Rattle.yw_path.proofs.law.waits_while_tokens_may_come.Goals as goal

pub returns : goal.returns
returns c = λ s i x marks actives has active. (fills s i x marks actives has active, waits s i x marks actives has active)
