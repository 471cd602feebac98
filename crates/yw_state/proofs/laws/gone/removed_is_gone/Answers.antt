use Rattle.yw_state.proofs.Gone.{removed-gone}
use Rattle.yw_state.proofs.laws.gone.removed_is_gone.Goals as goal

pub returns : goal.returns
returns c = λ s e said k. removed-gone k s e said
