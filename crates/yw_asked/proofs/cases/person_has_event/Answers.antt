use Rattle.yw_asked.proofs.CasesAsked as cases
use Rattle.yw_asked.proofs.cases.person_has_event.Goals as goal

pub returns : goal.returns
returns g c = λ s name roles right. cases.person_has_event g.R.Reads.reader s name roles right
