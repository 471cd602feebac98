use Rattle.yw_sites.proofs.Parts.{drop_law}
use Rattle.yw_sites.proofs.laws.part_goes.Goals as goal

pub returns : goal.returns
returns c = λ i old es fs s u. drop_law i old es fs s u
