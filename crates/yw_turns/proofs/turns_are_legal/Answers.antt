use Rattle.yw_turns.proofs.Entries as entries
use Rattle.yw_turns.proofs.turns_are_legal.Goals as goal

pub returns : goal.returns
returns g c = λ s mid t c e n es quiet unbroken asked leads of ran. entries.legal_turns g.R.Reads.reader s mid c e unbroken asked leads n es quiet t of ran
