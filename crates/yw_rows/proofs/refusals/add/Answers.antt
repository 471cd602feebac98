use Rattle.std.specs.Prelude.{refl}
use Rattle.yw_rows.proofs.RefusedRows.{add_sort, add_stage}
use Rattle.yw_state.specs.Allowed.{allows}
use Rattle.yw_state.specs.Broken.{checks}
use Rattle.yw_state.specs.Events.{after}
use Rattle.yw_rows.proofs.refusals.add.Goals as goal

pub returns : goal.returns
unfolding allows after checks
returns c = record { not_dynamic = refl; stage = add_stage; sort = add_sort; none = refl }
