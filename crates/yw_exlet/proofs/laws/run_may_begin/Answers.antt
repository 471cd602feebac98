use Rattle.yw_exlet.proofs.Allowed.{excepts, raises}
use Rattle.yw_exlet.proofs.laws.run_may_begin.Goals as goal

pub returns-clause-raise : goal.returns-clause-raise
returns-clause-raise c = λ names f s. raises names f s

pub returns-clause-except : goal.returns-clause-except
returns-clause-except c = λ names f s. excepts names f s
