use Rattle.yw_idle.proofs.Warm.{follows}
use Rattle.yw_idle.proofs.urgent_follows.Goals as goal

pub returns : goal.returns
returns g c = λ s e said j well ok urgent cold. follows s e said j well.numbers ok cold urgent
