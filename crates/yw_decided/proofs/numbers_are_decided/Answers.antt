use Rattle.yw_decided.proofs.Numbers.{numbers_from, numbers_to}
use Rattle.yw_decided.proofs.numbers_are_decided.Goals as goal

pub returns : goal.returns
returns c = λ s. (numbers_from s, numbers_to s)
