-- How far a session has come: which lines are answered, what the files hold of them at each moment, and what is kept of the next line.
use Rattle.std.specs.Prelude.{◌≡◌, ◌⊎◌, ℕ, ◌+◌, ◌<◌, ◌≤◌, List, [], ◌∷◌, ◌++◌, length, map}
use Rattle.yw_outside.specs.Image.{SaysPart, file_in, other_in}
use Rattle.yw_outside.specs.Moments.{IsSettled}
use Rattle.yw_outside.specs.Since.{LeavesOnly}
use Rattle.yw_outside.specs.declared.desk.File.{File}
use Rattle.yw_outside.specs.declared.image.Image.{Image}
use Rattle.yw_journal.specs.Files.{Content, Holds, end_of}
use Rattle.yw_journal.specs.Journal.{IsCurrent, appended}
use Rattle.yw_journal.specs.declared.journal.Journal.{Journal}
use Rattle.yw_codec.specs.Entries.{IsEntry, entry_bytes, framed}
use Rattle.yw_engine.specs.Held as held
use Rattle.yw_lines.specs.Lines.{whole_lines, last_part}
use Rattle.yw_state.specs.State.{State}
use Rattle.yw_model.specs.Run.{Entry, Step, Answers, Run, taken_by, said_by}
use Rattle.yw_serve.specs.Kept.{kept_of}
use Rattle.yw_serve.specs.declared.server.Server.{Server}
use Rattle.yw_serve.specs.declared.server.Stop.{Stop}
use Rattle.yw_serve.specs.declared.server.Stop.TheVariants.{Disk, Write, Memory, Full}
use Rattle.yw_serve.specs.declared.session.Session.{Session}
use Rattle.yw_outside.specs.declared.desk.Desk.{Ghosts}

-- ---- entries in a file

-- the bytes of an entry are those of its events
abbrev pub bytes_of : Entry → List ℕ
bytes_of entry = entry_bytes entry.events

-- each of these can be written: it has an entry's bytes
abbrev pub EachWritten : List Entry → Type 0
EachWritten [] = Unit {0}
EachWritten (e ∷ es) = IsEntry e.events (bytes_of e) × EachWritten es

-- a content with these entries after its own
abbrev pub with_entries : Content → List Entry → Content
with_entries c entries = record { generation = c.generation; count = c.count; snapshot = c.snapshot; records = c.records ++ map bytes_of entries }

-- with those that these steps take
abbrev pub with_steps : Content → List Step → Content
with_steps c steps = with_entries c (taken_by steps)

-- a file of this content with these entries after its own; every other byte is as it was
abbrev pub file_after : List ℕ → Content → List Entry → List ℕ
file_after file c [] = file
file_after file c (e ∷ es) = file_after (appended file (end_of c) (framed e.events)) (with_entries c (e ∷ [])) es

-- no entry is taken, or those that are end within the limit
abbrev pub HasRoom : ℕ → Content → List Step → Type 0
HasRoom limit c steps = (taken_by steps ≡ []) ⊎ (end_of (with_steps c steps) ≤ limit)

-- this file is the live one of higher generation, with this content
abbrev pub IsIn : File → Content → Image → Type 0
IsIn f c i = (end : ℕ) × Holds f c end i

-- ---- steps

-- These steps are done, and none is at work.
pub record IsBetween (f : File) (c : Content) (done : List Step) (old i : Image) : Type 0 where
  pub file : IsIn f (with_steps c done) i
  pub written : EachWritten (taken_by done)
  pub said : i.said ≡ old.said ++ said_by done

-- Of the steps after those done the first is at work: its entry stands whole, and a prefix of its reply is said.
pub record IsAtWork (f : File) (c : Content) (done rest : List Step) (old i : Image) : Type 0 where
  pub step : Step
  pub later : List Step
  pub first : rest ≡ step ∷ later
  pub file : IsIn f (with_steps c (done ++ step ∷ [])) i
  pub written : EachWritten (taken_by (done ++ step ∷ []))
  pub said : SaysPart (old.said ++ said_by done) step.reply i.said

-- Of these steps the first ones are done, and the next may be at work. No entry is torn, and nothing is said of a reply whose entry isn't held.
pub record OfSteps (f : File) (c : Content) (steps : List Step) (old i : Image) : Type 0 where
  pub done : List Step
  pub rest : List Step
  pub split : steps ≡ done ++ rest
  pub here : IsBetween f c done old i ⊎ IsAtWork f c done rest old i
  pub other : other_in f i ≡ other_in f old

-- These steps are done between two states of a desk: their entries are held and had room, not one other byte of a file has changed, their
-- replies are said, nothing is pending, and a crash at any moment of it leaves some of them.
pub record AreDone {D : Type 0} (g : Ghosts D)
    (c : Content) (steps : List Step) (journal : Journal) (old new : D) : Type 0 where
  pub file : IsCurrent journal (with_steps c steps) (g.state new)
  pub written : EachWritten (taken_by steps)
  pub room : HasRoom journal.limit c steps
  pub bytes : file_in journal.file (g.state new) ≡ file_after (file_in journal.file (g.state old)) c (taken_by steps)
  pub other : other_in journal.file (g.state new) ≡ other_in journal.file (g.state old)
  pub said : (g.state new).said ≡ (g.state old).said ++ said_by steps
  pub settled : IsSettled (g.state new) (g.may_leave new)
  pub moments : LeavesOnly g old new (OfSteps journal.file c steps (g.state old))

-- Why a session ended at a line, of which this may come, after content c: for want of memory or of room, before anything was done for it,
-- or within the calls of the desk, and then there was room. Where a reply wasn't said whole, its entry is held.
abbrev pub Why : {D : Type 0} → Ghosts D → Content → Stop → Journal → List Step → D → D → Type 0
Why g c Memory journal work old new = new ≡ old
Why g c (Full n) journal work old new =
    (new ≡ old) × (entry : Entry) × (step : Step) × (later : List Step) × (work ≡ step ∷ later) × (step.taken ≡ entry ∷ [])
    × (n ≡ journal.end + length (framed entry.events)) × (journal.limit < n)
Why g c Disk journal work old new = HasRoom journal.limit c work
Why g c Write journal work old new =
    HasRoom journal.limit c work × (file_in journal.file (g.state new) ≡ file_after (file_in journal.file (g.state old)) c (taken_by work))

-- ---- one line

-- the state that a server has
abbrev pub server_state : Server → State
server_state server = held.state_of server.office

-- The line with number n is answered.
pub record EndsLine {D : Type 0} (g : Ghosts D)
    (c : Content) (before now : Server) (n : ℕ) (line : List ℕ) (old new : D) : Type 0 where
  pub step : Step
  pub answers : Answers (server_state before) n line step (server_state now)
  pub are_done : AreDone g c (step ∷ []) now.journal old new

-- The server stopped at the line with number n, of which this comes.
pub record CutsStep {D : Type 0} (g : Ghosts D)
    (c : Content) (stop : Stop) (before : Server) (n : ℕ) (line : List ℕ) (old new : D) : Type 0 where
  pub step : Step
  pub after : State
  pub answers : Answers (server_state before) n line step after
  pub moments : LeavesOnly g old new (OfSteps before.journal.file c (step ∷ []) (g.state old))
  pub why : Why g c stop before.journal (step ∷ []) old new

-- It stopped there, or no memory was left to find out what comes of the line.
abbrev pub CutsLine : {D : Type 0} → Ghosts D → Content → Stop → Server → ℕ → List ℕ → D → D → Type 0
CutsLine g c stop before n line old new = ((stop ≡ Memory) × (new ≡ old)) ⊎ CutsStep g c stop before n line old new

-- ---- pieces of the input

abbrev pub state_of : Session → State
state_of session = server_state session.server

-- Of all lines those after the done ones are answered, the state is then t and the journal is this.
pub record AnswersOn {D : Type 0} (g : Ghosts D)
    (c : Content) (session : Session) (done all : List (List ℕ)) (t : State) (journal : Journal) (old new : D) : Type 0 where
  pub lines : List (List ℕ)
  pub split : all ≡ done ++ lines
  pub steps : List Step
  pub run : Run (state_of session) session.number lines steps t
  pub are_done : AreDone g c steps journal old new

-- Of the lines after the done ones some are answered, and the session stopped at the next.
pub record StopsWithin {D : Type 0} (g : Ghosts D)
    (c : Content) (stop : Stop) (session : Session) (done all : List (List ℕ)) (old new : D) : Type 0 where
  pub lines : List (List ℕ)
  -- the line at work, or none where nothing was found out of it
  pub next : List (List ℕ)
  pub one : length next ≤ 1
  pub later : List (List ℕ)
  pub split : all ≡ done ++ (lines ++ (next ++ later))
  pub steps : List Step
  pub reached : State
  pub run : Run (state_of session) session.number lines steps reached
  pub mid : D
  pub journal : Journal
  pub are_done : AreDone g c steps journal old mid
  -- what comes of the line at work
  pub work : List Step
  pub after : State
  pub run_on : Run reached (session.number + length lines) next work after
  pub moments : LeavesOnly g mid new (OfSteps journal.file (with_steps c steps) work (g.state mid))
  pub why : Why g (with_steps c steps) stop journal work mid new
  pub limit : journal.limit ≡ session.server.journal.limit
  pub file : journal.file ≡ session.server.journal.file

-- What has come of the next line is kept.
abbrev pub IsAtByte : Session → List ℕ → Type 0
IsAtByte session taken = session.line.items ≡ kept_of (last_part taken)

-- With this piece after the bytes taken, the lines that it ends are answered, and what it has of the next is kept.
pub record GoesOn {D : Type 0} (g : Ghosts D)
    (c : Content) (before now : Session) (taken piece : List ℕ) (old new : D) : Type 0 where
  pub answers : AnswersOn g c before (whole_lines taken) (whole_lines (taken ++ piece)) (state_of now) now.server.journal old new
  pub at : IsAtByte now (taken ++ piece)
  pub number : now.number ≡ before.number + length answers.lines
