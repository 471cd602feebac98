use Rattle.yw_still.proofs.Urgent as urgent
use Rattle.yw_still.proofs.comes.urgent_moves.Goals as goal

pub returns : goal.returns
returns g c = λ s n well hurry. urgent.urgent_moves g.R.Reads.reader s well n hurry
