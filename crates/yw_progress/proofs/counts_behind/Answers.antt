use Rattle.yw_progress.proofs.Behind.{behind}
use Rattle.yw_progress.proofs.counts_behind.Goals as goal

pub returns : goal.returns
returns g c = λ s e said i well ok has stays. behind s e said i well ok has stays
