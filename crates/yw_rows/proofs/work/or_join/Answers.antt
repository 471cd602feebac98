use Rattle.std.specs.Prelude.{[], ◌∷◌, codes, refl}
use Rattle.yw_rows.proofs.OrJoinLemmas.{waits, waits_no_more}
use Rattle.yw_rows.proofs.Works.{may_join, may_not_join}
use Rattle.yw_rows.specs.OrJoin.{or_row}
use Rattle.yw_rows.specs.Play.{begun}
use Rattle.yw_state.specs.Allowed.{allows}
use Rattle.yw_state.specs.Events.{after}
use Rattle.yw_rows.proofs.work.or_join.Goals as goal

pub returns : goal.returns
unfolding allows after
returns c =
    record {
      waits = may_not_join (begun or_row 10) (codes "ann") (1 ∷ []) (codes "j") refl waits;
      goes_on = may_join (begun or_row 13) (codes "ann") (1 ∷ []) (codes "j") waits_no_more refl;
    }
