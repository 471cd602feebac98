use Rattle.std.specs.Prelude.{refl}
use Rattle.yw_state.specs.Allowed.{allows}
use Rattle.yw_state.specs.Events.{after}
use Rattle.yw_rows.proofs.exlets.behind_case.Goals as goal

pub returns : goal.returns
unfolding allows after
returns c = record { due = refl; not_yet = refl; running = refl; nor_yet = refl; finished = refl }
