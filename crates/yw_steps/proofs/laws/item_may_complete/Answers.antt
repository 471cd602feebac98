use Rattle.yw_steps.proofs.FromState.{item_in, item_is}
use Rattle.yw_steps.proofs.laws.item_may_complete.Goals as goal

pub returns-clause-may : goal.returns-clause-may
returns-clause-may g c = item_in

pub returns-clause-needs : goal.returns-clause-needs
returns-clause-needs g c = λ names f s h well j x known. item_is names f s h j x known g.R.Reads.reader well
