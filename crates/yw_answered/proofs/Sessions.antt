-- Two sessions are one run, but for the numbers of the lines.
use Rattle.std.specs.Prelude.{ℕ, ◌+◌, List, [], ◌∷◌, ◌++◌, length, Option, Some, None, Result, Ok, Err, refl}
use Rattle.std.proofs.Common.{inl, inr}
use Rattle.yw_answered.specs.Sessions.{SameButNumber, SameButNumbers}
use Rattle.yw_lines.specs.Meaning.{meaning}
use Rattle.yw_lines.specs.Answers.{answer_line}
use Rattle.yw_lines.specs.Replies.{done_line, refused_line}
use Rattle.yw_model.proofs.RunLemmas.{Run-append}
use Rattle.yw_model.specs.Run.{Accepts, Answers, FoundAnswers, FoundTells, MeaningAnswers, QueryAnswers, Refuses, Run, Step, Tells, built_words}
use Rattle.yw_state.specs.Broken.{placeless}
use Rattle.yw_state.specs.State.{State}
use Rattle.yw_state.specs.declared.command.Asked.{Asked}
use Rattle.yw_state.specs.declared.command.Asked.TheVariants as asked
use Rattle.yw_state.specs.declared.command.Command.{Command}
use Rattle.yw_state.specs.declared.command.Query.{Query}
use Rattle.yw_state.specs.declared.rule.Refusal.{Refusal}
use Rattle.yw_state.specs.declared.rule.Rule.{Rule}

module _ (s : State) (n k : ℕ) (step : Step) (t : State) where
  -- the same step with the other number
  abbrev Renumbered : (Step → Type 0) → Type 0
  Renumbered P = (other : Step) × SameButNumber n k step other × P other

  refuses : (refusal : Refusal) → Refuses refusal s n step t → Renumbered (λ other. Refuses refusal s k other t)
  refuses refusal a = (
    record { taken = step.taken; reply = refused_line k refusal },
    record { taken = refl; reply = inl (refusal, a.told, refl) },
    record { nothing = a.nothing; told = refl; same = a.same },
  )

  accepts : (c : Command) → Accepts c s n step t → Renumbered (λ other. Accepts c s k other t)
  accepts c a = (
    record { taken = step.taken; reply = done_line k a.entry.events a.entry.quiet },
    record { taken = refl; reply = inr (inl (a.entry, a.told, refl)) },
    record { entry = a.entry; legal = a.legal; one = a.one; told = refl },
  )

  tells : (q : Query) → Tells q s n step t → Renumbered (λ other. Tells q s k other t)
  tells q a = (
    record { taken = step.taken; reply = answer_line k a.answer },
    record { taken = refl; reply = inr (inr (a.answer, a.told, refl)) },
    record { nothing = a.nothing; answer = a.answer; is = a.is; told = refl; same = a.same },
  )

  found : (rule : Option Refusal) (c : Command) → FoundAnswers rule c s n step t → Renumbered (λ other. FoundAnswers rule c s k other t)
  found (Some refusal) c a = refuses refusal a
  found None c a = accepts c a

  found_of : (rule : Option Refusal) (q : Query) → FoundTells rule q s n step t → Renumbered (λ other. FoundTells rule q s k other t)
  found_of (Some refusal) q a = refuses refusal a
  found_of None q a = tells q a

  told : (q : Query) → QueryAnswers q s n step t → Renumbered (λ other. QueryAnswers q s k other t)
  told q a = let r = found_of a.0 q a.2 in (r.0, r.1, (a.0, a.1, r.2))

  meant : (m : Result Asked Rule) → MeaningAnswers m s n step t → Renumbered (λ other. MeaningAnswers m s k other t)
  meant (Err r) a = refuses (placeless r) a
  meant (Ok (asked.Command c)) a = let r = found a.0 c a.2 in (r.0, r.1, (a.0, a.1, r.2))
  meant (Ok (asked.Query q)) a = told q a

  pub answered : (line : List ℕ) → Answers s n line step t → Renumbered (λ other. Answers s k line other t)
  unfolding Answers
  answered line a = meant (meaning built_words line) a

-- a run whose lines are numbered from k on
pub renumbered : (s t : State) (n k : ℕ) (lines : List (List ℕ)) (steps : List Step) → Run s n lines steps t
    → (others : List Step) × SameButNumbers n k steps others × Run s k lines others t
renumbered s t n k [] [] run = ([], tt, run)
renumbered s t n k [] (step ∷ steps) run = absurd run
renumbered s t n k (line ∷ lines) [] run = absurd run
renumbered s t n k (line ∷ lines) (step ∷ steps) (mid, a, run) =
    let first = answered s n k step mid line a in
    let later = renumbered mid t (n + 1) (k + 1) lines steps run in
    (first.0 ∷ later.0, (first.1, later.1), (mid, first.2, later.2))

-- and so one that goes on from another
pub sessions_join : (s m t : State) (n k : ℕ) (lines more : List (List ℕ)) (steps later : List Step) → Run s n lines steps m → Run m k more later t
    → (others : List Step) × SameButNumbers k (n + length lines) later others × Run s n (lines ++ more) (steps ++ others) t
sessions_join s m t n k lines more steps later first next =
    let r = renumbered m t k (n + length lines) more later next in
    (r.0, r.1, Run-append s n lines steps m more r.0 t first r.2)
