use Rattle.yw_idle.proofs.Staying.{stays_idle}
use Rattle.yw_idle.proofs.idle_follows.Goals as goal

pub returns : goal.returns
returns g c = λ s e said j x well ok no_rule stands cold. stays_idle s e said j x well ok no_rule stands cold
