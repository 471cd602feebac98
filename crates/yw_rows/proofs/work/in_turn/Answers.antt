use Rattle.std.specs.Prelude.{[], ◌∷◌, codes, refl}
use Rattle.yw_rows.proofs.Resting.{no_some}
use Rattle.yw_rows.proofs.Works.{may_enter}
use Rattle.yw_rows.specs.Play.{begun}
use Rattle.yw_rows.specs.Seq.{seq_row}
use Rattle.yw_state.specs.Allowed.{allows}
use Rattle.yw_state.specs.Events.{after}
use Rattle.yw_rows.proofs.work.in_turn.Goals as goal

pub returns : goal.returns
unfolding allows after
returns c =
    record {
      enter = may_enter (begun seq_row 3) (codes "ann") (1 ∷ []) (codes "a") refl refl;
      second = λ w. no_some _ w;
      unknown = λ w. no_some _ w;
      again = λ w. no_some _ w;
      start = (refl, refl);
      early = λ w. no_some _ w.0;
      complete = (refl, refl);
    }
