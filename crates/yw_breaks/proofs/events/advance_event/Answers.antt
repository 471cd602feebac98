use Rattle.yw_breaks.proofs.Asking.{advance_asks}
use Rattle.yw_breaks.proofs.events.advance_event.Goals as goal

pub returns : goal.returns
returns c = λ s. advance_asks s c.args.case.now c.case_number.result c.case_number.ensures
