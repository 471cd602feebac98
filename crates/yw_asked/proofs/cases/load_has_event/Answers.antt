use Rattle.yw_asked.proofs.CasesAsked as cases
use Rattle.yw_asked.proofs.cases.load_has_event.Goals as goal

pub returns : goal.returns
returns g c = λ s text spec says. cases.load_has_event g.R.Reads.reader s text spec says
