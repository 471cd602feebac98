use Rattle.yw_idents.proofs.Listed.{all_listed}
use Rattle.yw_idents.proofs.laws.all_are_listed.Goals as goal

pub returns : goal.returns
returns c = λ names f s n k b is e. all_listed names f b s is n k e
