use Rattle.std.specs.Prelude.{refl}
use Rattle.yw_state.specs.Allowed.{allows}
use Rattle.yw_state.specs.Events.{after}
use Rattle.yw_rows.proofs.loan.loan.Goals as goal

pub returns : goal.returns
unfolding allows after
returns c = record { launched = refl; substituted = refl; visited = refl; assessed = refl; voting = refl; voted = refl; late = refl; calling = refl; called = refl; over = refl; finished = refl }
