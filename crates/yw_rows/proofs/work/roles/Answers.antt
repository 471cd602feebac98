use Rattle.std.specs.Prelude.{[], ◌∷◌, codes, refl}
use Rattle.yw_rows.proofs.Resting.{no_some}
use Rattle.yw_rows.proofs.Works.{may_enter}
use Rattle.yw_rows.specs.Loan.{loan_row}
use Rattle.yw_rows.specs.Play.{begun}
use Rattle.yw_state.specs.Allowed.{allows}
use Rattle.yw_state.specs.Events.{after}
use Rattle.yw_rows.proofs.work.roles.Goals as goal

pub returns : goal.returns
unfolding allows after
returns c =
    record {
      teller = may_enter (begun loan_row 20) (codes "ann") (1 ∷ []) (codes "pay") refl refl;
      officer = λ w. no_some _ w;
      by_itself = λ w. no_some _ w;
      held = λ w. no_some _ w.0;
      another = λ w. no_some _ w.0;
      own = (refl, refl);
    }
