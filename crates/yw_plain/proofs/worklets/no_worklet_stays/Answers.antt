use Rattle.yw_plain.proofs.Started.{none_stays}
use Rattle.yw_plain.proofs.worklets.no_worklet_stays.Goals as goal

pub returns : goal.returns
returns g c = λ s e said well. none_stays s well.numbers well.nets well.parents e said
