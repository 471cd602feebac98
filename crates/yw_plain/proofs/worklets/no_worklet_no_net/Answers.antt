use Rattle.yw_plain.proofs.Started.{no_net}
use Rattle.yw_plain.proofs.worklets.no_worklet_no_net.Goals as goal

pub returns : goal.returns
returns g c = λ s j x well none. no_net s well.nets none j x
