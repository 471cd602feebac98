use Rattle.std.proofs.Common.{subst}
use Rattle.std.specs.Prelude.{None, refl}
use Rattle.yw_deeds.proofs.runs.compensation.Goals as goal
use Rattle.yw_deeds.specs.Runs.{IsOfName}

pub returns-in-Some : goal.returns-in-Some
returns-in-Some c = subst (λ o. IsOfName c.args.known.now o c.spec_named.result) c.in-Some.ensures c.spec_named.ensures

pub returns-in-None : goal.returns-in-None
returns-in-None c = subst (λ o. IsOfName c.args.known.now o None) c.in-None.ensures refl
