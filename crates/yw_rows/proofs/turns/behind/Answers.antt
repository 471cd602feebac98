use Rattle.std.specs.Prelude.{refl}
use Rattle.yw_state.specs.Allowed.{allows}
use Rattle.yw_state.specs.Events.{after}
use Rattle.yw_rows.proofs.turns.behind.Goals as goal

pub returns : goal.returns
unfolding allows after
returns c = record { due = refl; not_urgent = refl; not_begun = refl; not_over = refl; goes_on = refl; urgent = refl; finished = refl }
