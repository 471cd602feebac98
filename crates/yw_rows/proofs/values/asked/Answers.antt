use Rattle.std.specs.Prelude.{refl}
use Rattle.yw_state.specs.Allowed.{allows}
use Rattle.yw_state.specs.Legal.{IsAsked}
use Rattle.yw_state.specs.Events.{after}
use Rattle.yw_rows.proofs.values.asked.Goals as goal

pub returns : goal.returns
unfolding allows after IsAsked
returns c = record { launch = refl; missing = refl; empty = refl; complete = refl; add = refl; raised = refl }
