use Rattle.yw_state.proofs.Apart.{leaves_other_cases}
use Rattle.yw_state.proofs.laws.apart.event_leaves_other_cases.Goals as goal

pub returns : goal.returns
returns c = leaves_other_cases
