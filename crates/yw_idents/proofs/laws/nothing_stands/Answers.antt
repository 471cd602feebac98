use Rattle.yw_idents.proofs.Listed.{none_stands}
use Rattle.yw_idents.proofs.laws.nothing_stands.Goals as goal

pub returns : goal.returns
returns c = λ names f s n b is e. none_stands names f b s is n e
