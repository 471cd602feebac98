use Rattle.std.specs.Prelude.{refl}
use Rattle.yw_state.specs.Allowed.{allows}
use Rattle.yw_state.specs.Broken.{checks}
use Rattle.yw_state.specs.Events.{after}
use Rattle.yw_rows.proofs.nets.taken.Goals as goal

pub returns : goal.returns
unfolding allows after checks
returns c = record { gone = refl; no_item = refl; no_net = refl; cancelled = refl; over = refl; once = refl }
