use Rattle.std.specs.Prelude.{refl}
use Rattle.yw_rows.proofs.RefusedRows.{start_stage}
use Rattle.yw_state.specs.Allowed.{allows}
use Rattle.yw_state.specs.Broken.{checks}
use Rattle.yw_state.specs.Events.{after}
use Rattle.yw_rows.proofs.refusals.start.Goals as goal

pub returns : goal.returns
unfolding allows after checks
returns c = record { item = refl; composite = refl; role = refl; held = refl; stage = start_stage; worklet = refl; none = refl }
