use Rattle.std.specs.Prelude.{refl}
use Rattle.yw_state.specs.Allowed.{allows}
use Rattle.yw_state.specs.Broken.{checks}
use Rattle.yw_state.specs.Events.{after}
use Rattle.yw_rows.proofs.trees.raised.Goals as goal

pub returns : goal.returns
unfolding allows after checks
returns c = record { before = refl; all = refl; after = refl }
