use Rattle.yw_turns.proofs.Entries as entries
use Rattle.yw_turns.proofs.event_has_entry.Goals as goal

pub returns : goal.returns
returns g c = λ s mid c e unbroken asked leads. entries.has_entry g.R.Reads.reader s mid c e unbroken asked leads
