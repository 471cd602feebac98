use Rattle.std.proofs.Common.{refl}
use Rattle.yw_sites.proofs.Parts.{own_changes}
use Rattle.yw_sites.proofs.laws.own_site_changes.Goals as goal

pub returns : goal.returns
returns c = λ i x h below es fs s u. own_changes i x (h x) below below es fs s u u h refl refl
