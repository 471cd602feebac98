use Rattle.yw_exlet.proofs.Allowed.{prim_first, prim_may}
use Rattle.yw_exlet.proofs.laws.run_may_take.Goals as goal

pub returns-clause-may : goal.returns-clause-may
returns-clause-may c = λ names f s. prim_may names f s

pub returns-clause-first : goal.returns-clause-first
returns-clause-first c = λ names f s. prim_first names f s
