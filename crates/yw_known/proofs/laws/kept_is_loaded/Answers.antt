use Rattle.yw_known.proofs.Standing.{kept_called, kept_named, kept_within}
use Rattle.yw_known.proofs.laws.kept_is_loaded.Goals as goal

pub returns-clause-called : goal.returns-clause-called
returns-clause-called c = λ known f s name spec number h kept. kept_called known f s h name spec number kept

pub returns-clause-named : goal.returns-clause-named
returns-clause-named c = λ known f s name spec number h kept. kept_named known f s h name spec number kept

pub returns-clause-within : goal.returns-clause-within
returns-clause-within c = kept_within
