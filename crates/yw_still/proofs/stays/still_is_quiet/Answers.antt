use Rattle.yw_still.proofs.Quiet as quiet
use Rattle.yw_still.proofs.stays.still_is_quiet.Goals as goal

pub returns : goal.returns
returns c = λ s n still e comes. quiet.quiet s n still e comes
