-- How runs join, and what their steps take and say.
use Rattle.std.proofs.Common.{◌≡◌, ℕ, ◌+◌, List, [], ◌∷◌, ◌++◌, length, refl, sym, ap, ◌∙◌, subst, append_assoc, arith}
use Rattle.yw_state.specs.State.{State}
use Rattle.yw_state.specs.Texts.{Reader}
use Rattle.yw_model.specs.Run.{Entry, Step, Answers, EntriesLead, Run, taken_by, said_by}

-- over one line
pub Run-one : (s : State) (n : ℕ) (line : List ℕ) (step : Step) (t : State) → Answers s n line step t → Run s n (line ∷ []) (step ∷ []) t
Run-one s n line step t a = (t, a, refl)

-- over lines and then over more
pub Run-append : (s : State) (n : ℕ) (lines : List (List ℕ)) (steps : List Step) (m : State) (more : List (List ℕ)) (later : List Step) (t : State)
    → Run s n lines steps m → Run m (n + length lines) more later t → Run s n (lines ++ more) (steps ++ later) t
Run-append s n [] [] m more later t first next = subst (λ (x : State). Run x n more later t) first (subst (λ (k : ℕ). Run m k more later t) (omega arith) next)
Run-append s n [] (step ∷ steps) m more later t first next = absurd first
Run-append s n (line ∷ lines) [] m more later t first next = absurd first
Run-append s n (line ∷ lines) (step ∷ steps) m more later t first next =
    (first.0, first.1, Run-append first.0 (n + 1) lines steps m more later t first.2 (subst (λ (k : ℕ). Run m k more later t) (omega arith) next))

pub taken_by-append : (steps more : List Step) → taken_by (steps ++ more) ≡ taken_by steps ++ taken_by more
taken_by-append [] more = refl
taken_by-append (step ∷ steps) more = ap (λ (es : List Entry). step.taken ++ es) (taken_by-append steps more) ∙ sym (append_assoc step.taken (taken_by steps) (taken_by more))

pub said_by-append : (steps more : List Step) → said_by (steps ++ more) ≡ said_by steps ++ said_by more
said_by-append [] more = refl
said_by-append (step ∷ steps) more = ap (λ (bs : List ℕ). step.reply ++ bs) (said_by-append steps more) ∙ sym (append_assoc step.reply (said_by steps) (said_by more))

-- entries and then more lead where each leads
pub EntriesLead-append : (reader : Reader) (s : State) (es : List Entry) (m : State) (more : List Entry) (t : State)
    → EntriesLead reader s es m → EntriesLead reader m more t → EntriesLead reader s (es ++ more) t
EntriesLead-append reader s [] m more t first next = subst (λ (x : State). EntriesLead reader x more t) first next
EntriesLead-append reader s (e ∷ es) m more t (mid, lead, rest) next = (mid, lead, EntriesLead-append reader mid es m more t rest next)
