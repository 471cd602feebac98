use Rattle.yw_state.proofs.Apart.{leaves_cases}
use Rattle.yw_state.proofs.laws.apart.event_without_case_leaves_cases.Goals as goal

pub returns : goal.returns
returns c = leaves_cases
