use Rattle.std.specs.Prelude.{refl}
use Rattle.yw_state.specs.Allowed.{allows}
use Rattle.yw_state.specs.Events.{after}
use Rattle.yw_rows.proofs.wrong.runs.Goals as goal

pub returns : goal.returns
unfolding allows after
returns c = record { ok = refl; kind = refl; node = refl; number = refl; select = refl; waiting = refl; not_ended = refl; no_run = refl; suspended = refl; nothing = refl }
