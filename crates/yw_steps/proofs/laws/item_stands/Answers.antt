use Rattle.yw_steps.proofs.FromState.{item_found, start_found}
use Rattle.yw_steps.proofs.laws.item_stands.Goals as goal

pub returns-clause-found : goal.returns-clause-found
returns-clause-found c = λ names f s h j x known. item_found names f s h j x known

pub returns-clause-allowed : goal.returns-clause-allowed
returns-clause-allowed c = start_found
