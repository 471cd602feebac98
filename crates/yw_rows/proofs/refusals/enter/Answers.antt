use Rattle.std.specs.Prelude.{refl}
use Rattle.yw_rows.proofs.RefusedRows.{enter_active, enter_task, enter_tokens}
use Rattle.yw_state.specs.Allowed.{allows}
use Rattle.yw_state.specs.Broken.{checks}
use Rattle.yw_state.specs.Events.{after}
use Rattle.yw_rows.proofs.refusals.enter.Goals as goal

pub returns : goal.returns
unfolding allows after checks
returns c = record { person = refl; case = refl; task = enter_task; composite = refl; worklet = refl; role = refl; held = refl; active = enter_active; tokens = enter_tokens; none = refl }
