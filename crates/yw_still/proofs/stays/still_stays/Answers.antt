use Rattle.yw_still.proofs.Looking as looking
use Rattle.yw_still.proofs.stays.still_stays.Goals as goal

pub returns : goal.returns
returns c = λ s t j same still. looking.still_stays s t j same still
