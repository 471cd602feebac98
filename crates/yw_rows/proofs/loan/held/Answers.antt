use Rattle.std.specs.Prelude.{refl}
use Rattle.yw_state.specs.Allowed.{allows}
use Rattle.yw_state.specs.Broken.{checks}
use Rattle.yw_state.specs.Events.{after}
use Rattle.yw_rows.proofs.loan.held.Goals as goal

pub returns : goal.returns
unfolding allows after checks
returns c = record { at_22 = refl; at_24 = refl; by_22 = refl; by_23 = refl; by_24 = refl }
