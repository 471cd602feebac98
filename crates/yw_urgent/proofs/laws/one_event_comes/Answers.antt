use Rattle.yw_urgent.proofs.Single.{one_comes}
use Rattle.yw_urgent.proofs.laws.one_event_comes.Goals as goal

pub returns : goal.returns
returns g c = λ s j e f well x y. one_comes s j g.R.Reads.reader well e f x y
