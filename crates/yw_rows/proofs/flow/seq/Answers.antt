use Rattle.std.specs.Prelude.{refl}
use Rattle.yw_state.specs.Allowed.{allows}
use Rattle.yw_state.specs.Events.{after}
use Rattle.yw_rows.proofs.flow.seq.Goals as goal

pub returns : goal.returns
unfolding allows after
returns c = record { launched = refl; started = refl; between = refl; over = refl; finished = refl }
