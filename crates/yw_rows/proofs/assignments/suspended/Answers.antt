use Rattle.std.specs.Prelude.{refl}
use Rattle.yw_state.specs.Allowed.{allows}
use Rattle.yw_state.specs.Events.{after}
use Rattle.yw_rows.proofs.assignments.suspended.Goals as goal

pub returns : goal.returns
unfolding allows after
returns c = record { not_yet = refl; three = refl; two = refl }
