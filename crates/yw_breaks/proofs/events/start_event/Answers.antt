use Rattle.yw_breaks.proofs.Asking.{start_asks}
use Rattle.yw_breaks.proofs.events.start_event.Goals as goal

pub returns : goal.returns
returns c = λ s. start_asks s c.args.item c.args.who
