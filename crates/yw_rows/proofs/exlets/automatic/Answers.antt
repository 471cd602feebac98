use Rattle.std.specs.Prelude.{refl}
use Rattle.yw_state.specs.Allowed.{allows}
use Rattle.yw_state.specs.Events.{after}
use Rattle.yw_rows.proofs.exlets.automatic.Goals as goal

pub returns : goal.returns
unfolding allows after
returns c = record { composite = refl; empty = refl; with_rule = refl; manual = refl; other_tree = refl; no_rule = refl }
