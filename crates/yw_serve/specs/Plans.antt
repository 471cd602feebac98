-- What is to be done for a line. What is to be appended stands in a buffer beside the plan, as it is framed.
use Rattle.std.specs.Prelude.{◌≡◌, ℕ, List, [], ◌∷◌, Option, Some, None}
use Rattle.yw_codec.specs.Entries.{IsEntry, framed}
use Rattle.yw_engine.specs.declared.fault.Decided.{Decided}
use Rattle.yw_journal.specs.Files.{Content}
use Rattle.yw_journal.specs.Records.{IsFramed}
use Rattle.yw_journal.specs.declared.journal.Journal.{Journal}
use Rattle.serde_json.specs.Data.{Data}
use Rattle.yw_lines.specs.Answers.{answer_line}
use Rattle.yw_lines.specs.Replies.{done_line, refused_line}
use Rattle.yw_state.specs.Broken.{placeless}
use Rattle.yw_model.specs.Run.{Entry, Step, Answers, CommandAnswers, QueryAnswers}
use Rattle.yw_state.specs.declared.command.Command.{Command}
use Rattle.yw_state.specs.declared.command.Query.{Query}
use Rattle.yw_state.specs.State.{State}
use Rattle.yw_state.specs.declared.rule.Refusal.{Refusal}
use Rattle.yw_state.specs.declared.rule.Rule.{Rule}
use Rattle.yw_serve.specs.Desks.{ForContent}
use Rattle.yw_serve.specs.Session.{EndsLine, bytes_of}
use Rattle.yw_serve.specs.declared.plan.Plan.{Plan}
use Rattle.yw_serve.specs.declared.plan.Plan.TheVariants.{Say, Accept}
use Rattle.yw_serve.specs.declared.server.Server.{Server}
use Rattle.yw_outside.specs.declared.desk.Desk.{Ghosts}

-- The buffer has this entry, framed, which can be written.
pub record HasEntry (entry : Entry) (buffer : List ℕ) : Type 0 where
  pub bytes : buffer ≡ framed entry.events
  pub frame : IsFramed (framed entry.events) (bytes_of entry)
  pub written : IsEntry entry.events (bytes_of entry)

-- what was decided, as an entry
abbrev pub entry_of : Decided → Entry
entry_of decided = record { events = decided.events; quiet = decided.quiet }

-- The step takes what was decided, as the entry that the buffer has, and its reply is this.
pub record TakesEntry (decided : Decided) (buffer reply : List ℕ) (step : Step) : Type 0 where
  pub entry : Entry
  pub is : entry ≡ entry_of decided
  pub taken : step.taken ≡ entry ∷ []
  pub has : HasEntry entry buffer
  pub told : step.reply ≡ reply

-- the plan does this step
abbrev pub Does : Plan → List ℕ → Step → Type 0
Does (Say reply) buffer step = (step.taken ≡ []) × (step.reply ≡ reply)
Does (Accept decided reply) buffer step = TakesEntry decided buffer reply step

-- where the desk tells, for each content that the journal may stand for and each step that the plan does
abbrev pub ForPlan : {D : Type 0} → Ghosts D → Journal → D → Plan → List ℕ → (Content → Step → Type 0) → Type 0
ForPlan g journal desk plan buffer P = ForContent g journal desk (λ c. (step : Step) → Does plan buffer step → P c step)

-- the plan says this answer, and takes nothing
abbrev pub SaysAnswer : ℕ → Data → Plan → Type 0
SaysAnswer n answer (Say reply) = reply ≡ answer_line n answer
SaysAnswer n answer (Accept decided reply) = ⊥

-- the plan refuses so
abbrev pub Refuses : ℕ → Refusal → Plan → Type 0
Refuses n refusal (Say reply) = reply ≡ refused_line n refusal
Refuses n refusal (Accept decided reply) = ⊥

-- the plan refuses by this rule, which has no place; there is one
abbrev pub RefusesBy : ℕ → Option Rule → Plan → Type 0
RefusesBy n (Some r) plan = Refuses n (placeless r) plan
RefusesBy n None plan = ⊥

-- the plan takes what was decided as this entry, which the buffer has, and says its events and whether all is quiet after them
abbrev pub Accepts : ℕ → Entry → List ℕ → Plan → Type 0
Accepts n entry buffer (Accept decided reply) =
    (entry ≡ entry_of decided) × HasEntry entry buffer × (reply ≡ done_line n entry.events entry.quiet)
Accepts n entry buffer (Say reply) = ⊥

-- what is to be appended is a record's frame and a closed gate
abbrev pub CanBeAppended : List ℕ → Plan → Type 0
CanBeAppended buffer (Say reply) = Unit {0}
CanBeAppended buffer (Accept decided reply) = (bytes : List ℕ) × IsFramed buffer bytes

-- the plan is an answer to the line
pub record IsPlan (s : State) (n : ℕ) (line : List ℕ) (plan : Plan) (buffer : List ℕ) (t : State) : Type 0 where
  pub step : Step
  pub answers : Answers s n line step t
  pub does : Does plan buffer step

-- The plan takes nothing, and what it says is an answer to the query.
pub record IsPlanToTell (s : State) (n : ℕ) (q : Query) (plan : Plan) : Type 0 where
  pub step : Step
  pub answers : QueryAnswers q s n step s
  pub nothing : step.taken ≡ []
  pub says : plan ≡ Say step.reply

-- the plan is an answer to the command
pub record IsPlanFor (s : State) (n : ℕ) (c : Command) (plan : Plan) (buffer : List ℕ) (t : State) : Type 0 where
  pub step : Step
  pub answers : CommandAnswers c s n step t
  pub does : Does plan buffer step

-- The line with number n is answered by doing this plan.
pub record DoesLine {D : Type 0} (g : Ghosts D)
    (c : Content) (plan : Plan) (before now : Server) (n : ℕ) (line : List ℕ) (old new : D) : Type 0 where
  pub ends : EndsLine g c before now n line old new
  pub buffer : List ℕ
  pub does : Does plan buffer ends.step
