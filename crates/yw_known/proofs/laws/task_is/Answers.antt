use Rattle.std.proofs.Common.{ap}
use Rattle.std.specs.Prelude.{option_and_then}
use Rattle.yw_known.proofs.laws.task_is.Goals as goal
use Rattle.yw_state.specs.Nets.{task_number}
use Rattle.yw_state.specs.State.{NetAt, task_in}

pub returns : goal.returns
returns c = λ known f s i h name is. ap (option_and_then (λ (n : NetAt). option_and_then (task_in n) (task_number n.net name))) is.at
