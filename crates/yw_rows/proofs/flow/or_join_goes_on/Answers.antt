use Rattle.std.specs.Prelude.{refl}
use Rattle.yw_rows.proofs.OrJoinLemmas.{is_entered, waits_no_more}
use Rattle.yw_state.specs.Allowed.{allows}
use Rattle.yw_state.specs.Broken.{checks}
use Rattle.yw_state.specs.Events.{after}
use Rattle.yw_rows.proofs.flow.or_join_goes_on.Goals as goal

pub returns : goal.returns
unfolding allows after checks
returns c = record { emptied = refl; gone = refl; waits_not = waits_no_more; allowed = is_entered; joined = refl }
