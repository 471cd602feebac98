use Rattle.yw_sites.proofs.Dropped.{get-drop_all}
use Rattle.yw_sites.proofs.laws.dropping_answers.Goals as goal

pub returns : goal.returns
returns c = λ m js q. get-drop_all m js q
