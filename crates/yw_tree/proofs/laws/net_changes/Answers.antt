use Rattle.yw_tree.proofs.NetAt.{net_here}
use Rattle.yw_base.proofs.Parents.{identity_long}
use Rattle.yw_tree.proofs.laws.net_changes.Goals as goal

pub returns : goal.returns
returns c = λ names f id s w m b i e change.
    let h = net_here f id s b (identity_long id i) e in
    h.lift w change.boxed (change.children h.others h.here) names m (change.shows (h.beside names) (h.stands names) (h.shows names)) change.here change.elsewhere
