use Rattle.yw_state.specs.Events.{after}
use Rattle.yw_state.proofs.laws.well.advance_keeps_well.Goals as goal

pub returns : goal.returns
unfolding after
returns g c = λ s n said well allowed. well
