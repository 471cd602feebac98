use Rattle.std.specs.Prelude.{[], ◌∷◌, codes, refl}
use Rattle.yw_rows.proofs.Works.{may_enter}
use Rattle.yw_rows.specs.Several.{empty_row}
use Rattle.yw_rows.specs.Urgent.{to_choose}
use Rattle.yw_rows.specs.Play.{begun}
use Rattle.yw_state.specs.Allowed.{allows}
use Rattle.yw_state.specs.Events.{after}
use Rattle.yw_rows.proofs.work.told_all_the_same.Goals as goal

pub returns : goal.returns
unfolding allows after
returns c =
    record {
      count = may_enter (begun empty_row 3) (codes "ann") (1 ∷ []) (codes "m") refl refl;
      output = (refl, refl);
      urgent = may_enter (begun to_choose 10) (codes "ann") (1 ∷ []) (codes "k") refl refl;
    }
