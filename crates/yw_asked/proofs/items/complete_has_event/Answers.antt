use Rattle.yw_asked.proofs.ItemsAsked as items
use Rattle.yw_asked.proofs.items.complete_has_event.Goals as goal

pub returns : goal.returns
returns g c = λ s who j gs well. items.complete_has_event g.R.Reads.reader s well who j gs
