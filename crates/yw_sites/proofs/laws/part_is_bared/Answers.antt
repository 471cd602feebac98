use Rattle.std.proofs.Common.{refl, [], None}
use Rattle.yw_sites.proofs.Parts.{is_bared}
use Rattle.yw_sites.proofs.laws.part_is_bared.Goals as goal

pub returns : goal.returns
returns c = λ i x below es fs s u. is_bared i x (record x { net = None }) below [] es fs s u tt refl refl
