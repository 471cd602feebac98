-- What a list of lines may be answered: a run goes line by line. Our own.
use Rattle.std.specs.Prelude.{ℕ, ◌+◌, ◌≡◌, List, [], ◌∷◌, ◌++◌, Bool, true, Option, Some, None, Result, Ok, Err}
use Rattle.yw_texts.specs.Lacking.{CannotLack}
use Rattle.yw_texts.specs.Texts.{reader}
use Rattle.yw_state.specs.State.{State}
use Rattle.yw_state.specs.Texts.{Reader}
use Rattle.yw_state.specs.Events.{LeadAll}
use Rattle.yw_state.specs.Legal.{IsLegal}
use Rattle.yw_lines.specs.Meaning.{meaning}
use Rattle.yw_lines.specs.Answers.{answer_line}
use Rattle.yw_lines.specs.Replies.{done_line, refused_line}
use Rattle.yw_model.specs.Told.{IsTold}
use Rattle.serde_json.specs.Data.{Data}
use Rattle.yw_state.specs.Broken.{Breaks, QueryBreaks, placeless}
use Rattle.yw_state.specs.declared.rule.Rule.{Rule}
use Rattle.yw_state.specs.declared.rule.Refusal.{Refusal}
use Rattle.yw_state.specs.declared.command.Asked.{Asked}
use Rattle.yw_state.specs.declared.command.Asked.TheVariants as asked
use Rattle.yw_state.specs.declared.command.Command.{Command}
use Rattle.yw_state.specs.declared.command.Query.{Query}
use Rattle.yw_state.specs.declared.event.Event.{Event}
use Rattle.yw_lines.specs.declared.word.Word.{Word}
use Rattle.yw_lines.specs.declared.word.Word.TheVariants as words

-- the words whose commands and queries are built
abbrev pub built_words : List Word
built_words =
    words.Person ∷ words.Load ∷ words.Launch ∷ words.Enter ∷ words.Start ∷ words.Complete ∷ words.Add ∷ words.Suspend ∷ words.Continue
    ∷ words.Cancel ∷ words.Advance ∷ words.List ∷ words.Show ∷ words.Ended ∷ words.Specs ∷ []

-- What one accepted command does: its events in order, and whether all is quiet after them.
pub record Entry : Type 0 where
  pub events : List Event
  pub quiet : Bool

-- What comes of one line: the entry that is taken, if one is, and the reply.
pub record Step : Type 0 where
  pub taken : List Entry
  pub reply : List ℕ

-- a refusal is said, and changes nothing
pub record Refuses (refusal : Refusal) (s : State) (n : ℕ) (step : Step) (t : State) : Type 0 where
  pub nothing : step.taken ≡ []
  pub told : step.reply ≡ refused_line n refusal
  pub same : t ≡ s

-- one legal entry is taken, and its line is said
pub record Accepts (c : Command) (s : State) (n : ℕ) (step : Step) (t : State) : Type 0 where
  pub entry : Entry
  pub legal : IsLegal reader s c entry.events entry.quiet t
  pub one : step.taken ≡ entry ∷ []
  pub told : step.reply ≡ done_line n entry.events entry.quiet

-- the query's answer is said, and changes nothing
pub record Tells (q : Query) (s : State) (n : ℕ) (step : Step) (t : State) : Type 0 where
  pub nothing : step.taken ≡ []
  pub answer : Data
  pub is : IsTold s q answer
  pub told : step.reply ≡ answer_line n answer
  pub same : t ≡ s

-- by the first rule that is broken, if one is
abbrev pub FoundAnswers : Option Refusal → Command → State → ℕ → Step → State → Type 0
FoundAnswers (Some refusal) c = Refuses refusal
FoundAnswers None c = Accepts c

abbrev pub CommandAnswers : Command → State → ℕ → Step → State → Type 0
CommandAnswers c s n step t = (found : Option Refusal) × Breaks reader s c found × FoundAnswers found c s n step t

-- by the first rule that the query breaks, if it breaks one
abbrev pub FoundTells : Option Refusal → Query → State → ℕ → Step → State → Type 0
FoundTells (Some refusal) q = Refuses refusal
FoundTells None q = Tells q

abbrev pub QueryAnswers : Query → State → ℕ → Step → State → Type 0
QueryAnswers q s n step t = (found : Option Refusal) × QueryBreaks s q found × FoundTells found q s n step t

abbrev pub MeaningAnswers : Result Asked Rule → State → ℕ → Step → State → Type 0
MeaningAnswers (Err r) = Refuses (placeless r)
MeaningAnswers (Ok (asked.Command c)) = CommandAnswers c
MeaningAnswers (Ok (asked.Query q)) = QueryAnswers q

-- In state s this step may come of the line with number n, and the state is then t. What is said of runs looks no
-- further into it, so that further kinds of lines join here alone.
unfoldable pub Answers : State → ℕ → List ℕ → Step → State → Type 0
Answers s n line = MeaningAnswers (meaning built_words line) s n

-- From state s these steps may come of the lines, numbered from n, and the state is then t.
abbrev pub Run : State → ℕ → List (List ℕ) → List Step → State → Type 0
Run s n [] [] t = t ≡ s
Run s n [] (step ∷ steps) t = ⊥
Run s n (line ∷ lines) [] t = ⊥
Run s n (line ∷ lines) (step ∷ steps) t = (mid : State) × Answers s n line step mid × Run mid (n + 1) lines steps t

-- the lines have a run from this state on
abbrev pub HasRun : State → ℕ → List (List ℕ) → Type 0
HasRun s n lines = CannotLack ((steps : List Step) × (t : State) × Run s n lines steps t)

-- the entries that steps take, in order
abbrev pub taken_by : List Step → List Entry
taken_by [] = []
taken_by (step ∷ steps) = step.taken ++ taken_by steps

-- these entries lead from s to t: the events of each are allowed in their turn
abbrev pub EntriesLead : Reader → State → List Entry → State → Type 0
EntriesLead texts s [] t = t ≡ s
EntriesLead texts s (e ∷ es) t = (mid : State) × LeadAll texts s e.events mid × EntriesLead texts mid es t

-- the output that steps give
abbrev pub said_by : List Step → List ℕ
said_by [] = []
said_by (step ∷ steps) = step.reply ++ said_by steps
