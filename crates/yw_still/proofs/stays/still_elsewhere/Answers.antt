use Rattle.yw_still.proofs.OtherCases as others
use Rattle.yw_still.proofs.stays.still_elsewhere.Goals as goal

pub returns : goal.returns
returns g c = λ s e said n j x well allowed of stands out still. others.still_elsewhere n s e said j x well.numbers well.parents allowed of stands out still
