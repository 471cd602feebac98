use Rattle.std.specs.Prelude.{refl}
use Rattle.std.proofs.Common.{inl}
use Rattle.yw_rows.specs.Loop.{complete_last}
use Rattle.yw_state.specs.Allowed.{allows}
use Rattle.yw_state.specs.Broken.{checks}
use Rattle.yw_state.specs.Events.{after}
use Rattle.yw_rows.proofs.endless.rounds.Goals as goal

pub returns : goal.returns
unfolding allows after checks
returns c =
    record {
      again = refl;
      most = refl;
      automatic = refl;
      allowed = refl;
      refused = inl ((complete_last, record { here = refl; automatic = refl; allowed = (refl, tt) }), refl);
      suspended = refl;
    }
