use Rattle.std.specs.Prelude.{refl}
use Rattle.yw_rows.proofs.RefusedRows.{complete_another, complete_lacking, complete_sort, complete_stage, complete_undefined, complete_unknown}
use Rattle.yw_state.specs.Allowed.{allows}
use Rattle.yw_state.specs.Broken.{checks}
use Rattle.yw_state.specs.Events.{after}
use Rattle.yw_rows.proofs.refusals.complete.Goals as goal

pub returns : goal.returns
unfolding allows after checks
returns c = record { worklet = refl; stage = complete_stage; another = complete_another; busy = refl; unknown = complete_unknown; lacking = complete_lacking; sort = complete_sort; undefined = complete_undefined; none = refl }
