use Rattle.std.specs.Prelude.{refl}
use Rattle.yw_state.specs.Allowed.{allows}
use Rattle.yw_state.specs.Events.{after}
use Rattle.yw_rows.proofs.limits.numbers.Goals as goal

pub returns : goal.returns
unfolding allows after
returns c = record { last = refl; none = refl; run = refl; not_passed = refl; no_run = refl; passed = refl }
