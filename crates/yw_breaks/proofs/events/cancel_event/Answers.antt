use Rattle.yw_breaks.proofs.Asking.{cancel_asks}
use Rattle.yw_breaks.proofs.events.cancel_event.Goals as goal

pub returns : goal.returns
returns c = λ s. cancel_asks s c.args.case.now c.case_number.result c.case_number.ensures
