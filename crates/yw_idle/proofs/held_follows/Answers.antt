use Rattle.yw_idle.proofs.Held.{stays_held}
use Rattle.yw_idle.proofs.held_follows.Goals as goal

pub returns : goal.returns
returns g c = λ s e said j x y well ok stood stands free held. stays_held s e said j x y well ok stood stands free held
