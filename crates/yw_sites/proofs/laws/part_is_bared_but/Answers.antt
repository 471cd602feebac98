use Rattle.std.proofs.Common.{refl, [], None, ◌∷◌, ◌++◌}
use Rattle.yw_sites.specs.Entries.{Entries}
use Rattle.yw_sites.proofs.Parts.{is_bared_but, other}
use Rattle.yw_sites.proofs.laws.part_is_bared_but.Goals as goal

pub returns : goal.returns
returns c = λ i r x v below es fs s u strict none.
    let one : Entries = (r, v) ∷ [] in
    is_bared_but i x (record x { net = None }) (below ++ one) one es fs s u ((other r i strict).0, tt) r v below strict refl none refl refl
