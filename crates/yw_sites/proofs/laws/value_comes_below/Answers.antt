use Rattle.yw_sites.proofs.Gained.{gained_below}
use Rattle.yw_sites.proofs.laws.value_comes_below.Goals as goal

pub returns : goal.returns
returns c = λ i k x v below es fs s u strict vacant. gained_below i k x v below es fs s u strict vacant
