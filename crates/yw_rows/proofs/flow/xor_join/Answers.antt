use Rattle.std.specs.Prelude.{refl}
use Rattle.yw_state.specs.Allowed.{allows}
use Rattle.yw_state.specs.Events.{after}
use Rattle.yw_rows.proofs.flow.xor_join.Goals as goal

pub returns : goal.returns
unfolding allows after
returns c = record { first = refl; second = refl; both = refl; none = refl; input = refl }
