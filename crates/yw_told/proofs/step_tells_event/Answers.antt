use Rattle.yw_told.proofs.Steps as steps
use Rattle.yw_told.proofs.step_tells_event.Goals as goal

pub returns : goal.returns
returns c = λ s n e f fit holds come other same. steps.step_tells s fit holds n e f come other same
