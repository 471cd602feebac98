use Rattle.yw_invariant.proofs.ExitWell as exit
use Rattle.yw_invariant.proofs.exit.exit_keeps_well.Goals as goal

pub returns : goal.returns
returns g c = λ sound s i t places said. exit.exit_keeps_well g.R.Reads.reader sound s i t places said
