use Rattle.yw_work.proofs.Lacking.{list_stands}
use Rattle.yw_work.proofs.work_list_cannot_lack.Goals as goal

pub returns : goal.returns
returns g c = λ s who well none. list_stands s who well none
