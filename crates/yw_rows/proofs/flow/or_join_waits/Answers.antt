use Rattle.std.specs.Prelude.{refl}
use Rattle.yw_rows.proofs.OrJoinLemmas.{kept_out, waits}
use Rattle.yw_rows.proofs.RefusedRows.{join_waits}
use Rattle.yw_state.specs.Allowed.{allows}
use Rattle.yw_state.specs.Broken.{checks}
use Rattle.yw_state.specs.Events.{after}
use Rattle.yw_rows.proofs.flow.or_join_waits.Goals as goal

pub returns : goal.returns
unfolding allows after checks
returns c = record { before = refl; waits = waits; forbidden = kept_out; tokens = refl; refused = join_waits }
