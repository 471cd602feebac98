-- What each status says of a run over an input, of the files and of the output.
-- The source had `bytes`, has `left` now, and its last read gave `piece` bytes. At most `limit` bytes are answered, and no entry that is taken ends
-- past `full_at`. The desk was `old` and is `new`.
use Rattle.std.specs.Prelude.{◌≡◌, ◌⊎◌, ℕ, List, Option}
use Rattle.yw_outside.specs.Moments.{IsSettled}
use Rattle.yw_outside.specs.Tells.{Tells, TellsWhole}
use Rattle.yw_outside.specs.declared.desk.File.{File}
use Rattle.yw_journal.specs.Files.{Content}
use Rattle.yw_state.specs.State.{State}
use Rattle.yw_serve.specs.Damage.{HoldNow, IsDamagedNow}
use Rattle.yw_serve.specs.Ends.{EndsWhole, EndsBetween, EndsPast, EndsShort}
use Rattle.yw_serve.specs.Notices.{damage_line, full_line}
use Rattle.yw_serve.specs.Opening.{GoesOnOrBegins, IsUnsynced, OpensBy}
use Rattle.yw_serve.specs.declared.server.Stop.TheVariants as stops
use Rattle.yw_serve.specs.declared.top.Status.{Status}
use Rattle.yw_serve.specs.declared.top.Status.TheVariants.{Ok, Findings, Usage, Disk, Memory, Read, Write, Damaged, Full, InputLimit}
use Rattle.yw_outside.specs.declared.desk.Desk.{Ghosts}

-- The text is said whole with this status, or in part with Write, or no memory was left to make it.
abbrev pub IsTold : {D : Type 0} → Ghosts D → Status → Status → List ℕ → D → D → Type 0
IsTold g status wanted text old new =
    ((status ≡ wanted) × TellsWhole g text old new) ⊎ ((status ≡ Write) × Tells g text old new) ⊎ ((status ≡ Memory) × (new ≡ old))

-- The line at work had no room, and then its one line was said, all of it or a prefix.
pub record EndsFull {D : Type 0} (g : Ghosts D)
    (c : Content) (s : State) (full_at limit : ℕ) (bytes : List ℕ) (left : Option (List ℕ)) (piece : ℕ) (Says : List ℕ → D → D → Type 0) (old new : D) : Type 0 where
  pub length : ℕ
  pub mid : D
  pub short : EndsShort g c s full_at limit (stops.Full length) bytes left piece old mid
  pub said : Says (full_line length) mid new

-- how a run ends with each status, where the files were opened with content c and state s
abbrev pub RunEnds : {D : Type 0} → Ghosts D
    → Status → Content → State → ℕ → ℕ → List ℕ → Option (List ℕ) → ℕ → D → D → Type 0
-- all is answered and held
RunEnds g Ok c s full_at limit bytes left piece old new = EndsWhole g c s full_at limit bytes left old new
-- the lines that ended within the bytes taken are
RunEnds g Read c s full_at limit bytes left piece old new = EndsBetween g c s full_at limit bytes left old new
-- those that ended within the limit are
RunEnds g InputLimit c s full_at limit bytes left piece old new = EndsPast g c s full_at limit bytes left old new
-- those that ended before the last piece are, and of the further ones some
RunEnds g Disk c s full_at limit bytes left piece old new = EndsShort g c s full_at limit stops.Disk bytes left piece old new
RunEnds g Memory c s full_at limit bytes left piece old new =
    EndsShort g c s full_at limit stops.Memory bytes left piece old new
    ⊎ EndsFull g c s full_at limit bytes left piece (λ text mid now. now ≡ mid) old new
RunEnds g Write c s full_at limit bytes left piece old new =
    EndsShort g c s full_at limit stops.Write bytes left piece old new
    ⊎ EndsFull g c s full_at limit bytes left piece (Tells g) old new
RunEnds g Full c s full_at limit bytes left piece old new = EndsFull g c s full_at limit bytes left piece (TellsWhole g) old new
-- the others don't come of a run
RunEnds g Findings c s full_at limit bytes left piece old new = ⊥
RunEnds g Usage c s full_at limit bytes left piece old new = ⊥
RunEnds g Damaged c s full_at limit bytes left piece old new = ⊥

-- The files were opened: they held state s, and hold it when the run begins, in the content that was found or in the file just begun, also
-- after a crash. Nothing else has changed by then.
pub record RunsFrom {D : Type 0} (g : Ghosts D)
    (Ends : Content → State → D → Type 0) (old : D) : Type 0 where
  pub s : State
  pub before : Content
  pub held : HoldNow before s (g.state old)
  pub c : Content
  pub opened : D
  pub holds : HoldNow c s (g.state opened)
  pub content : GoesOnOrBegins before c (g.state old) (g.state opened)
  pub settled : IsSettled (g.state opened) (g.may_leave opened)
  pub b : (g.state opened).b ≡ (g.state old).b
  pub said : (g.state opened).said ≡ (g.state old).said
  pub opening : OpensBy g old opened
  pub ends : Ends c s opened

-- After the syncs a damage was found, and its line said, all of it or a prefix; not one byte of a file has changed.
pub record FindsDamage {D : Type 0} (g : Ghosts D)
    (Says : List ℕ → D → D → Type 0) (old new : D) : Type 0 where
  pub file : File
  pub place : ℕ
  pub damaged : IsDamagedNow (g.state old) file place
  pub mid : D
  pub same : g.state mid ≡ g.state old
  pub settled : IsSettled (g.state mid) (g.may_leave mid)
  pub opening : OpensBy g old mid
  pub said : Says (damage_line file place) mid new

-- The opening wasn't finished, before the files were synced or after it, and nothing is said.
pub record OpensInPart {D : Type 0} (g : Ghosts D) (old new : D) : Type 0 where
  pub said : (g.state new).said ≡ (g.state old).said
  pub opening : OpensBy g old new ⊎ IsUnsynced g old new

-- how the opening ends with each status, where no run follows
abbrev pub OpeningEnds : {D : Type 0} → Ghosts D → Status → D → D → Type 0
OpeningEnds g Disk old new = OpensInPart g old new
OpeningEnds g Memory old new = OpensInPart g old new ⊎ FindsDamage g (λ text mid now. now ≡ mid) old new
OpeningEnds g Write old new = FindsDamage g (Tells g) old new
OpeningEnds g Damaged old new = FindsDamage g (TellsWhole g) old new
OpeningEnds g Ok old new = ⊥
OpeningEnds g Findings old new = ⊥
OpeningEnds g Usage old new = ⊥
OpeningEnds g Read old new = ⊥
OpeningEnds g Full old new = ⊥
OpeningEnds g InputLimit old new = ⊥

-- Under the words `run` the files weren't opened, and the source is what it was, or they were, and the lines are answered.
abbrev pub Ended : {D : Type 0} → Ghosts D → Status → ℕ → ℕ → List ℕ → Option (List ℕ) → ℕ → Type 0 → D → D → Type 0
Ended g status full_at limit bytes left piece Untouched old new =
    (OpeningEnds g status old new × Untouched)
    ⊎ RunsFrom g (λ c s opened. RunEnds g status c s full_at limit bytes left piece opened new) old

-- the statuses with which a run ends where nothing failed: all is answered, or no memory was left, or an entry had no room
abbrev pub IsUnfailed : Status → Type 0
IsUnfailed status = (status ≡ Ok) ⊎ (status ≡ Memory) ⊎ (status ≡ Full)

-- the statuses that words of the form `run` may end with
abbrev pub IsOfRun : Status → Type 0
IsOfRun Ok = Unit {0}
IsOfRun Disk = Unit {0}
IsOfRun Memory = Unit {0}
IsOfRun Read = Unit {0}
IsOfRun Write = Unit {0}
IsOfRun Damaged = Unit {0}
IsOfRun Full = Unit {0}
IsOfRun InputLimit = Unit {0}
IsOfRun Findings = ⊥
IsOfRun Usage = ⊥
