-- The entries of a run lead to the state that it reaches.
use Rattle.std.proofs.Common.{ℕ, List, [], ◌∷◌, map}
use Rattle.yw_answered.proofs.Runs.{taken_lead}
use Rattle.yw_journal.specs.Files.{LeadsTo}
use Rattle.yw_model.specs.Run.{EntriesLead, Entry, Step, Run, taken_by}
use Rattle.yw_texts.specs.Texts.{reader}
use Rattle.yw_state.specs.State.{State}
use Rattle.yw_serve.specs.Damage.{meaning}
use Rattle.yw_serve.specs.Session.{EachWritten, bytes_of}

-- entries that can be written lead there by their bytes
meant : (s : State) (es : List Entry) (t : State) → EachWritten es → EntriesLead reader s es t → LeadsTo meaning s (map bytes_of es) t
meant s [] t written lead = lead
meant s (e ∷ es) t written lead = (lead.0, record { events = e.events; is = written.0; lead = lead.1 }, meant lead.0 es t written.1 lead.2)

pub run_meant : (s : State) (n : ℕ) (all : List (List ℕ)) (steps : List Step) (t : State) → EachWritten (taken_by steps) → Run s n all steps t
    → LeadsTo meaning s (map bytes_of (taken_by steps)) t
run_meant s n all steps t written run = meant s (taken_by steps) t written (taken_lead s t n all steps run)
