use Rattle.std.specs.Prelude.{refl}
use Rattle.yw_rows.proofs.RefusedRows.{given_nothing_mapping}
use Rattle.yw_state.specs.Allowed.{allows}
use Rattle.yw_state.specs.Broken.{checks}
use Rattle.yw_state.specs.Events.{after}
use Rattle.yw_rows.proofs.assignments.given_nothing.Goals as goal

pub returns : goal.returns
unfolding allows after checks
returns c = record { not_entered = refl; mapping = given_nothing_mapping }
