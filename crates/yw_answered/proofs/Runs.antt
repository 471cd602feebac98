-- What a run takes leads to its state, which stays well; and in a state that is well no lines lack a run.
use Rattle.std.specs.Prelude.{◌≡◌, ℕ, ◌+◌, List, [], ◌∷◌, Option, Some, None, Result, Ok, Err, refl}
use Rattle.std.proofs.Common.{sym, subst}
use Rattle.yw_answered.proofs.LinesAnswered.{line_has_answer}
use Rattle.yw_accepted.proofs.Loaded.{accepted_are_sound}
use Rattle.yw_invariant.proofs.FromOpening.{events_keep_well}
use Rattle.yw_lines.specs.Meaning.{meaning}
use Rattle.yw_texts.proofs.Lacking.{follows, here}
use Rattle.yw_model.proofs.RunLemmas.{EntriesLead-append}
use Rattle.yw_model.specs.Run.{Accepts, Answers, EntriesLead, Entry, FoundAnswers, FoundTells, HasRun, MeaningAnswers, QueryAnswers, Refuses, Run, Step, Tells, built_words, taken_by}
use Rattle.yw_texts.specs.Lacking.{CannotLack}
use Rattle.yw_texts.specs.Texts.{reader}
use Rattle.yw_state.specs.Broken.{placeless}
use Rattle.yw_state.specs.State.{State}
use Rattle.yw_state.specs.Well.{IsWell}
use Rattle.yw_state.specs.declared.command.Asked.{Asked}
use Rattle.yw_state.specs.declared.command.Asked.TheVariants as asked
use Rattle.yw_state.specs.declared.command.Command.{Command}
use Rattle.yw_state.specs.declared.command.Query.{Query}
use Rattle.yw_state.specs.declared.rule.Refusal.{Refusal}
use Rattle.yw_state.specs.declared.rule.Rule.{Rule}
use Rattle.yw_turns.proofs.Entries.{legal_leads}

-- ---- what is taken leads to the state

module _ (s : State) (n : ℕ) (step : Step) (t : State) where
  abbrev StepLeads : Type 0
  StepLeads = EntriesLead reader s step.taken t

  nothing_leads : step.taken ≡ [] → t ≡ s → StepLeads
  nothing_leads nothing same = subst (λ (es : List Entry). EntriesLead reader s es t) (sym nothing) same

  refused_leads : (refusal : Refusal) → Refuses refusal s n step t → StepLeads
  refused_leads refusal a = nothing_leads a.nothing a.same

  accepted_leads : (c : Command) → Accepts c s n step t → StepLeads
  accepted_leads c a =
      let lead = legal_leads reader s c a.entry.events a.entry.quiet t a.legal in
      subst (λ (es : List Entry). EntriesLead reader s es t) (sym a.one) (t, lead, refl)

  found_leads : (found : Option Refusal) (c : Command) → FoundAnswers found c s n step t → StepLeads
  found_leads (Some refusal) c a = refused_leads refusal a
  found_leads None c a = accepted_leads c a

  told_leads : (found : Option Refusal) (q : Query) → FoundTells found q s n step t → StepLeads
  told_leads (Some refusal) q a = refused_leads refusal a
  told_leads None q a = nothing_leads a.nothing a.same

  query_leads : (q : Query) → QueryAnswers q s n step t → StepLeads
  query_leads q a = told_leads a.0 q a.2

  meant_leads : (m : Result Asked Rule) → MeaningAnswers m s n step t → StepLeads
  meant_leads (Err r) a = refused_leads (placeless r) a
  meant_leads (Ok (asked.Command c)) a = found_leads a.0 c a.2
  meant_leads (Ok (asked.Query q)) a = query_leads q a

  pub answer_leads : (line : List ℕ) → Answers s n line step t → StepLeads
  unfolding Answers
  answer_leads line a = meant_leads (meaning built_words line) a

pub taken_lead : (s t : State) (n : ℕ) (lines : List (List ℕ)) (steps : List Step) → Run s n lines steps t → EntriesLead reader s (taken_by steps) t
taken_lead s t n [] [] run = run
taken_lead s t n [] (step ∷ steps) run = absurd run
taken_lead s t n (line ∷ lines) [] run = absurd run
taken_lead s t n (line ∷ lines) (step ∷ steps) (mid, a, run) =
    EntriesLead-append reader s step.taken mid (taken_by steps) t (answer_leads s n step mid line a) (taken_lead mid t (n + 1) lines steps run)

-- ---- so a state that is well stays so

entries_keep_well : (es : List Entry) (s t : State) → IsWell reader s → EntriesLead reader s es t → IsWell reader t
entries_keep_well [] s t well same = subst (IsWell reader) (sym same) well
entries_keep_well (e ∷ es) s t well (mid, lead, rest) = entries_keep_well es mid t (events_keep_well reader accepted_are_sound e.events s mid well lead) rest

pub answers_keep_well : (s t : State) (n : ℕ) (line : List ℕ) (step : Step) → IsWell reader s → Answers s n line step t → IsWell reader t
answers_keep_well s t n line step well a = entries_keep_well step.taken s t well (answer_leads s n step t line a)

pub run_keeps_well : (s t : State) (n : ℕ) (lines : List (List ℕ)) (steps : List Step) → IsWell reader s → Run s n lines steps t → IsWell reader t
run_keeps_well s t n lines steps well run = entries_keep_well (taken_by steps) s t well (taken_lead s t n lines steps run)

-- ---- and no lines lack a run

line_answered : (s : State) (n : ℕ) (line : List ℕ) → IsWell reader s → CannotLack ((step : Step) × (t : State) × Answers s n line step t)
unfolding Answers
line_answered s n line well = line_has_answer built_words s n line well

pub lines_have_run : (s : State) (n : ℕ) (lines : List (List ℕ)) → IsWell reader s → HasRun s n lines
lines_have_run s n [] well = here ([], s, refl)
lines_have_run s n (line ∷ lines) well = follows (line_answered s n line well) (λ a.
    let later = lines_have_run a.1 (n + 1) lines (answers_keep_well s a.1 n line a.0 well a.2) in
    follows later (λ r. here (a.0 ∷ r.0, r.1, (a.1, a.2, r.2))))
