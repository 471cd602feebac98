use Rattle.yw_invariant.proofs.TasksEntered as entering
use Rattle.yw_invariant.proofs.items.enter_keeps_well.Goals as goal

pub returns : goal.returns
returns g c = λ sound s i t places first count said. entering.enter_keeps_well g.R.Reads.reader sound s i t places first count said
