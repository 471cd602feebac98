use Rattle.std.specs.Prelude.{refl}
use Rattle.yw_rows.proofs.RefusedRows.{mapping_refused}
use Rattle.yw_state.specs.Allowed.{allows}
use Rattle.yw_state.specs.Broken.{checks}
use Rattle.yw_state.specs.Events.{after}
use Rattle.yw_rows.proofs.items.mapping.Goals as goal

pub returns : goal.returns
unfolding allows after checks
returns c = record { zero = refl; refused = mapping_refused; stays = refl; five = refl; made = refl; finished = refl }
