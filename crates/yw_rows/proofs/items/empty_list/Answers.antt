use Rattle.std.specs.Prelude.{refl}
use Rattle.yw_rows.proofs.RefusedRows.{empty_list_refused}
use Rattle.yw_state.specs.Allowed.{allows}
use Rattle.yw_state.specs.Broken.{checks}
use Rattle.yw_state.specs.Events.{after}
use Rattle.yw_rows.proofs.items.empty_list.Goals as goal

pub returns : goal.returns
unfolding allows after checks
returns c = record { refused = empty_list_refused; none = refl; shown = refl; next = refl }
