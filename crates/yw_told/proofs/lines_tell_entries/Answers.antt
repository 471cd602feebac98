use Rattle.yw_told.proofs.Entries as entries
use Rattle.yw_told.proofs.lines_tell_entries.Goals as goal

pub returns : goal.returns
returns g c = λ sound within one s well. entries.entries_told g.R.Reads.reader sound within one s well
