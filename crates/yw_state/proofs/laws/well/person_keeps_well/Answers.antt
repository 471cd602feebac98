use Rattle.yw_state.proofs.PersonWell as person
use Rattle.yw_state.proofs.laws.well.person_keeps_well.Goals as goal

pub returns : goal.returns
returns g c = λ s name roles. person.person_keeps_well s name roles g.R.Reads.reader
