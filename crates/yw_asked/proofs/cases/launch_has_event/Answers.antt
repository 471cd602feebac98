use Rattle.yw_asked.proofs.CasesAsked as cases
use Rattle.yw_asked.proofs.cases.launch_has_event.Goals as goal

pub returns : goal.returns
returns g c = λ s name gs holds. cases.launch_has_event g.R.Reads.reader s holds name gs
