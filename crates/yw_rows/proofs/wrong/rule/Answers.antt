use Rattle.std.specs.Prelude.{refl}
use Rattle.yw_state.specs.Allowed.{allows}
use Rattle.yw_state.specs.Events.{after}
use Rattle.yw_rows.proofs.wrong.rule.Goals as goal

pub returns : goal.returns
unfolding allows after
returns c = record { ok = refl; number = refl; node = refl; side = refl; worklet = refl; kind = refl }
