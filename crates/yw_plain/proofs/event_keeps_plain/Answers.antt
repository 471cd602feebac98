use Rattle.yw_plain.proofs.Keeping.{event_keeps}
use Rattle.yw_plain.proofs.event_keeps_plain.Goals as goal

pub returns : goal.returns
returns c = event_keeps
