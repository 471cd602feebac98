use Rattle.yw_accepted.proofs.Loaded.{accepted_are_sound, accepted_are_within}
use Rattle.yw_invariant.proofs.FromOpening.{reached_is_well}
use Rattle.yw_texts.proofs.ReadingOnce.{reads_one}
use Rattle.yw_texts.specs.Texts.{reader}
use Rattle.yw_told.proofs.Entries as entries
use Rattle.yw_told.proofs.reached_lines_tell_entries.Goals as goal

pub returns : goal.returns
returns c = λ es s leads.
    entries.entries_told reader accepted_are_sound accepted_are_within reads_one s (reached_is_well reader accepted_are_sound es s leads)
