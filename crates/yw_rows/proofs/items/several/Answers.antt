use Rattle.std.specs.Prelude.{refl}
use Rattle.yw_rows.proofs.RefusedRows.{several_most}
use Rattle.yw_state.specs.Allowed.{allows}
use Rattle.yw_state.specs.Broken.{checks}
use Rattle.yw_state.specs.Events.{after}
use Rattle.yw_rows.proofs.items.several.Goals as goal

pub returns : goal.returns
unfolding allows after checks
returns c = record { entered = refl; added = refl; fourth = refl; most = several_most; one = refl; early = refl; two = refl; gone = refl }
