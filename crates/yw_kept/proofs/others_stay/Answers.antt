use Rattle.yw_kept.proofs.Staying as staying
use Rattle.yw_kept.proofs.others_stay.Goals as goal

pub returns : goal.returns
returns c = λ s e said k may out other. staying.others_stay k s e said may out other
