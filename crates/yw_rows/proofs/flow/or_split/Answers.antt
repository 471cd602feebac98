use Rattle.std.specs.Prelude.{refl}
use Rattle.yw_rows.proofs.OrJoinLemmas.{both_taken, waits_for_second}
use Rattle.yw_state.specs.Allowed.{allows}
use Rattle.yw_state.specs.Events.{after}
use Rattle.yw_rows.proofs.flow.or_split.Goals as goal

pub returns : goal.returns
unfolding allows after
returns c = record { two = refl; waits = waits_for_second; both = both_taken; joined = refl; default = refl }
