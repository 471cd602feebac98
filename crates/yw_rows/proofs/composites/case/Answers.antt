use Rattle.std.specs.Prelude.{refl}
use Rattle.yw_state.specs.Allowed.{allows}
use Rattle.yw_state.specs.Events.{after}
use Rattle.yw_rows.proofs.composites.case.Goals as goal

pub returns : goal.returns
unfolding allows after
returns c = record { due = refl; waits = refl }
