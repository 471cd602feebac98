-- Which counts of faults rose, by the answer. Every other is what it was, so no failed call is passed over.
-- The count of failed reads was `before` and is `now`. The desk was `old` and is `new`.
use Rattle.std.specs.Prelude.{◌≡◌, ◌⊎◌, ℕ, Option, Some, None, Result, Ok, Err}
use Rattle.yw_outside.specs.Causes.{Rose}
use Rattle.yw_outside.specs.Since.{NoneFailed}
use Rattle.yw_outside.specs.declared.desk.Desk.{Ghosts}
use Rattle.yw_serve.specs.declared.run.Ending.{Ending}
use Rattle.yw_serve.specs.declared.run.Ending.TheVariants as endings
use Rattle.yw_serve.specs.declared.server.Stop.{Stop}
use Rattle.yw_serve.specs.declared.server.Stop.TheVariants as stops
use Rattle.yw_serve.specs.declared.top.Status.{Status}
use Rattle.yw_serve.specs.declared.top.Status.TheVariants.{Ok as Whole, Findings, Usage, Disk, Memory, Read, Write, Damaged, Full, InputLimit}

-- No count of faults rose: no read failed, no call of the files and no say.
pub record NoneRose {D : Type 0} (g : Ghosts D) (before now : ℕ) (old new : D) : Type 0 where
  pub read : Rose before now → ⊥
  pub disk : Rose (g.disk_faults old) (g.disk_faults new) → ⊥
  pub say : Rose (g.say_faults old) (g.say_faults new) → ⊥

-- A call of the files failed, and no say.
pub record FilesFailed {D : Type 0} (g : Ghosts D) (old new : D) : Type 0 where
  pub disk : Rose (g.disk_faults old) (g.disk_faults new)
  pub say : g.say_faults new ≡ g.say_faults old

-- A say failed, and no call of the files.
pub record SayFailed {D : Type 0} (g : Ghosts D) (old new : D) : Type 0 where
  pub disk : g.disk_faults new ≡ g.disk_faults old
  pub say : Rose (g.say_faults old) (g.say_faults new)

-- where a session stopped
abbrev pub StopFaults : {D : Type 0} → Ghosts D → Stop → D → D → Type 0
StopFaults g stops.Disk old new = FilesFailed g old new
StopFaults g stops.Write old new = SayFailed g old new
StopFaults g stops.Memory old new = NoneFailed g old new
StopFaults g (stops.Full n) old new = NoneFailed g old new

-- by the answer of a call that may stop a session
abbrev pub CallFaults : {D T : Type 0} → Ghosts D → Result T Stop → D → D → Type 0
CallFaults g (Ok v) old new = NoneFailed g old new
CallFaults g (Err stop) old new = StopFaults g stop old new

-- by the ending of a run
abbrev pub EndingFaults : {D : Type 0} → Ghosts D → Ending → ℕ → ℕ → D → D → Type 0
EndingFaults g endings.Whole before now old new = (now ≡ before) × NoneFailed g old new
EndingFaults g endings.Unread before now old new = Rose before now × NoneFailed g old new
EndingFaults g endings.Past before now old new = (now ≡ before) × NoneFailed g old new
EndingFaults g (endings.Stopped stop) before now old new = (now ≡ before) × StopFaults g stop old new

-- by the ending that a turn finds, or none
abbrev pub TurnFaults : {D : Type 0} → Ghosts D → Option Ending → ℕ → ℕ → D → D → Type 0
TurnFaults g None before now old new = (now ≡ before) × NoneFailed g old new
TurnFaults g (Some ending) before now old new = EndingFaults g ending before now old new

-- where a line beside the replies was to be said, with the status that is wanted
abbrev pub NoticeFaults : {D : Type 0} → Ghosts D → Status → Status → D → D → Type 0
NoticeFaults g status wanted old new =
    ((status ≡ wanted) × NoneFailed g old new) ⊎ ((status ≡ Write) × SayFailed g old new) ⊎ ((status ≡ Memory) × NoneFailed g old new)

-- by the status
abbrev pub StatusFaults : {D : Type 0} → Ghosts D → Status → ℕ → ℕ → D → D → Type 0
StatusFaults g Whole before now old new = (now ≡ before) × NoneFailed g old new
StatusFaults g Findings before now old new = (now ≡ before) × NoneFailed g old new
StatusFaults g Usage before now old new = (now ≡ before) × NoneFailed g old new
StatusFaults g Memory before now old new = (now ≡ before) × NoneFailed g old new
StatusFaults g Damaged before now old new = (now ≡ before) × NoneFailed g old new
StatusFaults g Full before now old new = (now ≡ before) × NoneFailed g old new
StatusFaults g InputLimit before now old new = (now ≡ before) × NoneFailed g old new
StatusFaults g Disk before now old new = (now ≡ before) × FilesFailed g old new
StatusFaults g Read before now old new = Rose before now × NoneFailed g old new
StatusFaults g Write before now old new = (now ≡ before) × SayFailed g old new
