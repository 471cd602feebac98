use Rattle.yw_turns.proofs.Entries as entries
use Rattle.yw_turns.proofs.legal_entry_leads.Goals as goal

pub returns : goal.returns
returns g c = λ s c entry quiet t a. entries.legal_leads g.R.Reads.reader s c entry quiet t a
