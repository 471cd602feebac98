use Rattle.std.specs.Prelude.{refl}
use Rattle.yw_state.specs.Allowed.{allows}
use Rattle.yw_state.specs.Broken.{checks}
use Rattle.yw_state.specs.Events.{after}
use Rattle.yw_rows.proofs.exlets.before.Goals as goal

pub returns : goal.returns
unfolding allows after checks
returns c = record { due = refl; urgent = refl; running = refl; still_urgent = refl; suspended = refl; clear = refl; held = refl; started = refl; once = refl }
