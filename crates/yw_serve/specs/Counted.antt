-- A bench: a server on a desk of its own is fed lines, and what they come to is counted. The desk was `old` and is `new`.
use Rattle.std.specs.Prelude.{◌≡◌, ◌⊎◌, ◌+◌, ◌*◌, ◌≤◌, ◌^◌, ℕ, List, [], ◌++◌, length, IsTrue, Result, Ok, Err}
use Rattle.yw_judge.specs.Ends.{KeepsFiles}
use Rattle.yw_model.specs.Run.{Run, Step, said_by}
use Rattle.yw_outside.specs.Causes.{Rose}
use Rattle.yw_outside.specs.Moments.{IsSettled}
use Rattle.yw_outside.specs.Since.{NoneFailed}
use Rattle.yw_outside.specs.Tells.{Tells, TellsWhole}
use Rattle.yw_outside.specs.declared.image.Image.{Image}
use Rattle.yw_state.specs.State.{State, opening}
use Rattle.yw_serve.specs.Bench.{bench_lines}
use Rattle.yw_serve.specs.Damage.{HoldNow}
use Rattle.yw_serve.specs.Desks.{Stands, longest_entry}
use Rattle.yw_serve.specs.Faults.{FilesFailed, SayFailed}
use Rattle.yw_serve.specs.Opening.{begun}
use Rattle.yw_serve.specs.Session.{AreDone, server_state, with_steps}
use Rattle.yw_serve.specs.Summary.{IsWithin, summary_line, summary_of}
use Rattle.yw_serve.specs.declared.counted.BenchFault.{BenchFault}
use Rattle.yw_serve.specs.declared.counted.BenchFault.TheVariants as faults
use Rattle.yw_serve.specs.declared.counted.Counted.{Counted}
use Rattle.yw_serve.specs.declared.opening.StartFault.{StartFault}
use Rattle.yw_serve.specs.declared.opening.StartFault.TheVariants as starts
use Rattle.yw_serve.specs.declared.server.Stop.{Stop}
use Rattle.yw_serve.specs.declared.server.Stop.TheVariants as stops
use Rattle.yw_serve.specs.declared.summary.Summary.{Summary}
use Rattle.yw_serve.specs.declared.top.Status.{Status}
use Rattle.yw_serve.specs.declared.top.Status.TheVariants.{Ok as Whole, Findings, Usage, Disk, Memory, Read, Write, Damaged, Full, InputLimit}
use Rattle.yw_outside.specs.declared.desk.Desk.{Ghosts}

-- Both files are empty.
pub record IsEmpty (i : Image) : Type 0 where
  pub a : i.a ≡ []
  pub b : i.b ≡ []

-- ---- on the way

-- These lines are answered since the file was begun, the last with the number before the next one's, and counted. The desk was `begin` then.
pub record HasTaken {D : Type 0} (g : Ghosts D) (counted : Counted) (lines : List (List ℕ)) (begin new : D) : Type 0 where
  pub steps : List Step
  pub run : Run opening 1 lines steps (server_state counted.server)
  pub are_done : AreDone g begun steps counted.server.journal begin new
  pub number : counted.number ≡ 1 + length lines
  pub summary : counted.summary ≡ summary_of steps

-- Whatever was answered before, where it was these lines it is those now.
abbrev pub TakesOn : {D : Type 0} → Ghosts D → Counted → Counted → List (List ℕ) → List (List ℕ) → D → D → Type 0
TakesOn {D} g before now some more old new = (begin : D) → HasTaken g before some begin old → HasTaken g now more begin new

-- A further line can be answered: what has come of each one so far is at most one entry.
pub record CanTake {D : Type 0} (g : Ghosts D) (counted : Counted) (desk : D) : Type 0 where
  pub tells : IsTrue (g.tells desk)
  pub stands : Stands g counted.server.journal desk
  pub within : IsWithin (4097 * counted.number) counted.summary
  pub end : counted.server.journal.end ≤ longest_entry * counted.number
  pub limited : counted.server.journal.limit ≡ 2 ^ 62

-- The files were empty, file A is begun, and nothing else has changed. No line is answered yet.
pub record Begins {D : Type 0} (g : Ghosts D) (counted : Counted) (old new : D) : Type 0 where
  pub taken : HasTaken g counted [] new new
  pub holds : HoldNow begun opening (g.state new)
  pub said : (g.state new).said ≡ (g.state old).said
  pub can : CanTake g counted new
  pub first : counted.number ≡ 1

-- ---- faults

-- why a bench isn't done, where a server doesn't start or a line stops; empty files have no damage, and each entry has room
abbrev pub IsFaultOfStart : StartFault → BenchFault → Type 0
IsFaultOfStart starts.Disk fault = fault ≡ faults.Disk
IsFaultOfStart starts.Memory fault = fault ≡ faults.Memory
IsFaultOfStart (starts.Damaged f place) fault = ⊥

abbrev pub IsFaultOfStop : Stop → BenchFault → Type 0
IsFaultOfStop stops.Disk fault = fault ≡ faults.Disk
IsFaultOfStop stops.Write fault = fault ≡ faults.Write
IsFaultOfStop stops.Memory fault = fault ≡ faults.Memory
IsFaultOfStop (stops.Full n) fault = ⊥

-- which counts of faults rose, by the fault; every other is what it was
abbrev pub FailedBy : {D : Type 0} → Ghosts D → BenchFault → D → D → Type 0
FailedBy g faults.Disk old new = FilesFailed g old new
FailedBy g faults.Write old new = SayFailed g old new
FailedBy g faults.Memory old new = NoneFailed g old new

abbrev pub BenchFaults : {D T : Type 0} → Ghosts D → Result T BenchFault → D → D → Type 0
BenchFaults g (Ok v) old new = NoneFailed g old new
BenchFaults g (Err fault) old new = FailedBy g fault old new

-- ---- its end

-- The lines of a bench are answered from the opening state on: the desk's files hold the entries and the state that they lead to, also after
-- a crash, all replies are said, and the summary is that of these entries and replies.
pub record Benches {D : Type 0} (g : Ghosts D) (start count : ℕ) (summary : Summary) (old new : D) : Type 0 where
  pub steps : List Step
  pub reached : State
  pub run : Run opening 1 (bench_lines start count) steps reached
  pub holds : HoldNow (with_steps begun steps) reached (g.state new)
  pub settled : IsSettled (g.state new) (g.may_leave new)
  pub said : (g.state new).said ≡ (g.state old).said ++ said_by steps
  pub counted : summary ≡ summary_of steps

-- The lines of a bench have a run whose steps come to this.
pub record IsSummary (start count : ℕ) (summary : Summary) : Type 0 where
  pub steps : List Step
  pub reached : State
  pub run : Run opening 1 (bench_lines start count) steps reached
  pub counted : summary ≡ summary_of steps

abbrev pub OfSummary : ℕ → ℕ → (Summary → Type 0) → Type 0
OfSummary start count P = (summary : Summary) × IsSummary start count summary × P summary

-- what is said with each status
abbrev pub SaysSummary : {D : Type 0} → Ghosts D → Status → ℕ → ℕ → D → D → Type 0
SaysSummary g Whole start count old new = OfSummary start count (λ summary. TellsWhole g (summary_line summary) old new)
SaysSummary g Write start count old new = OfSummary start count (λ summary. Tells g (summary_line summary) old new)
SaysSummary g Memory start count old new = new ≡ old
SaysSummary g Findings start count old new = ⊥
SaysSummary g Usage start count old new = ⊥
SaysSummary g Disk start count old new = ⊥
SaysSummary g Read start count old new = ⊥
SaysSummary g Damaged start count old new = ⊥
SaysSummary g Full start count old new = ⊥
SaysSummary g InputLimit start count old new = ⊥

-- the statuses that the words of a bench may end with
abbrev pub IsOfBench : Status → Type 0
IsOfBench Whole = Unit {0}
IsOfBench Memory = Unit {0}
IsOfBench Write = Unit {0}
IsOfBench Findings = ⊥
IsOfBench Usage = ⊥
IsOfBench Disk = ⊥
IsOfBench Read = ⊥
IsOfBench Damaged = ⊥
IsOfBench Full = ⊥
IsOfBench InputLimit = ⊥

-- Under the words of a bench its summary is said, or part of it, or no memory was left. No file is touched, and where no say failed, the
-- summary is said whole or no memory was left.
pub record SaysBench {D : Type 0} (g : Ghosts D) (status : Status) (start count : ℕ) (old new : D) : Type 0 where
  pub says : IsTrue (g.tells old) → SaysSummary g status start count old new
  pub files : KeepsFiles g old new
  pub told : IsOfBench status
  pub complete : ¬ (Rose (g.say_faults old) (g.say_faults new)) → (status ≡ Whole) ⊎ (status ≡ Memory)
