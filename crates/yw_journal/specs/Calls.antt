-- What the calls of a journal say of the desk. It was `old` and is `new`.
use Rattle.std.specs.Prelude.{◌≡◌, ◌≢◌, ◌⊎◌, ℕ, ◌+◌, ◌≤◌, ◌<◌, List, ◌∷◌, ◌++◌, length, take, drop, slice_index, IsTrue, Result, Ok, Err}
use Rattle.yw_outside.specs.Causes.{Rose}
use Rattle.yw_outside.specs.Image.{file_in, other_in, Writes}
use Rattle.yw_outside.specs.Moments.{After, IsSettled}
use Rattle.yw_outside.specs.Since.{LeavesOnly}
use Rattle.yw_outside.specs.declared.desk.Desk.{Ghosts}
use Rattle.yw_outside.specs.declared.desk.File.{File}
use Rattle.yw_outside.specs.declared.image.Image.{Image}
use Rattle.yw_journal.specs.Files.{Content, FileHas, Holds}
use Rattle.yw_journal.specs.Journal.{IsCurrent, IsHeldBeside, appended, made, with_record}
use Rattle.yw_journal.specs.Records.{IsFramed, IsFramedState}
use Rattle.yw_journal.specs.declared.journal.AppendFault.{AppendFault}
use Rattle.yw_journal.specs.declared.journal.AppendFault.TheVariants.{Disk, Full}
use Rattle.yw_journal.specs.declared.journal.Journal.{Journal}

-- how the count of the files' faults stands after each answer: it rose under Disk, and is what it was else
abbrev pub CountsDisk : {T : Type 0} → Result T AppendFault → ℕ → ℕ → Type 0
CountsDisk (Ok v) before now = now ≡ before
CountsDisk (Err Disk) before now = Rose before now
CountsDisk (Err (Full n)) before now = now ≡ before

-- A failed call of the files is answered Disk. No say has failed, and the desk tells as it did.
pub record Counts {D T : Type 0} (g : Ghosts D) (old new : D) (result : Result T AppendFault) : Type 0 where
  pub tells : g.tells new ≡ g.tells old
  pub later : g.disk_faults old ≤ g.disk_faults new
  pub disk : CountsDisk result (g.disk_faults old) (g.disk_faults new)
  pub say : g.say_faults new ≡ g.say_faults old

-- Of the files only this one has changed, as `Of` says; nothing is said, and nothing is pending.
pub record IsRewritten {D : Type 0} (g : Ghosts D) (f : File) (Of : List ℕ → List ℕ → Type 0) (old new : D) : Type 0 where
  pub bytes : Of (file_in f (g.state old)) (file_in f (g.state new))
  pub other : other_in f (g.state new) ≡ other_in f (g.state old)
  pub said : (g.state new).said ≡ (g.state old).said
  pub settled : IsSettled (g.state new) (g.may_leave new)

-- where the desk tells what it holds
abbrev pub Rewrites : {D : Type 0} → Ghosts D → File → (List ℕ → List ℕ → Type 0) → D → D → Type 0
Rewrites g f Of old new = IsTrue (g.tells old) → IsRewritten g f Of old new

-- a crash at any moment leaves what has P of the desk before, where it tells what it holds
abbrev pub Leaves : {D : Type 0} → Ghosts D → (Image → Image → Type 0) → D → D → Type 0
Leaves g P old new = IsTrue (g.tells old) → LeavesOnly g old new (P (g.state old))

-- nothing is pending, where the desk tells what it holds
abbrev pub NonePending : {D : Type 0} → Ghosts D → D → Type 0
NonePending g desk = IsTrue (g.tells desk) → IsSettled (g.state desk) (g.may_leave desk)

-- a crash within a write leaves this of what it might have left before
abbrev pub LeftByWrite : {D : Type 0} → Ghosts D → File → ℕ → List ℕ → D → Image → Type 0
LeftByWrite g f at bytes old = After (Writes f at (length bytes)) (g.may_leave old)

-- a record's frame stands at this offset, and the gate before it is open; every other byte is as it was
abbrev pub IsAppendedTo : ℕ → List ℕ → List ℕ → List ℕ → Type 0
IsAppendedTo end framed old new = new ≡ appended old end framed

-- the gate is closed; every other byte is as it was
pub record IsShutOf (old new : List ℕ) : Type 0 where
  pub some : 1 ≤ length new
  pub gate : slice_index new 0 ≢ 1
  pub after : drop 1 new ≡ drop 1 old

-- this header and what follows it stand after the gate; every other byte is as it was
abbrev pub IsFilledAfter : List ℕ → List ℕ → List ℕ → List ℕ → Type 0
IsFilledAfter header framed old new = new ≡ take 1 old ++ header ++ framed ++ drop (21 + length framed) old

-- after an open gate stand this header and what follows it; every byte past them is as it was
abbrev pub IsMadeOver : List ℕ → List ℕ → List ℕ → List ℕ → Type 0
IsMadeOver header framed old new = new ≡ 1 ∷ header ++ framed ++ drop (21 + length framed) old

-- the file is empty, or its gate is open
abbrev pub IsOpenOrEmpty : List ℕ → Type 0
IsOpenOrEmpty file = (length file ≡ 0) ⊎ (slice_index file 0 ≡ 1)

-- the gate is there, and it is closed
abbrev pub IsShut : List ℕ → Type 0
IsShut file = (1 ≤ length file) × (slice_index file 0 ≢ 1)

-- put at `end`, these bytes would end at n, past the limit
abbrev pub HasNoRoom : ℕ → ℕ → List ℕ → ℕ → Type 0
HasNoRoom limit end framed n = (n ≡ end + length framed) × (limit < n)

-- for each content that the journal stands for and each record that is handed in, where the desk tells what it holds
abbrev pub ForRecord : {D : Type 0} → Ghosts D → Journal → List ℕ → D → (Content → List ℕ → Type 0) → Type 0
ForRecord g j framed desk P =
    IsTrue (g.tells desk) → (c : Content) (bytes : List ℕ) → IsCurrent j c (g.state desk) → IsFramed framed bytes → P c bytes

-- The record is there after the others, also after a crash. The journal was `before` and is `now`.
pub record HasRecord {D : Type 0} (g : Ghosts D) (before now : Journal) (new : D) (c : Content) (bytes : List ℕ) : Type 0 where
  pub current : IsCurrent now (with_record c bytes) (g.state new)
  pub each_has : (i : Image) → g.may_leave new i → Holds before.file (with_record c bytes) now.end i

-- the journal stands for a content of the files, where the desk tells what they hold
abbrev pub StandsFor : {D : Type 0} → Ghosts D → Journal → D → Type 0
StandsFor g j desk = IsTrue (g.tells desk) → (c : Content) × IsCurrent j c (g.state desk)

-- the journal with one record more, which is handed in so
abbrev pub with_end : Journal → List ℕ → Journal
with_end j framed = record j { end = j.end + length framed; number = j.number + 1 }

-- for each content that is held beside the file and each snapshot that is handed in, where the desk tells what it holds
abbrev pub ForSnapshot : {D : Type 0} → Ghosts D → File → List ℕ → D → (Content → List ℕ → Type 0) → Type 0
ForSnapshot g f framed desk P =
    IsTrue (g.tells desk) → (c : Content) (snapshot : List ℕ) → IsHeldBeside f c (g.state desk) → IsFramedState framed snapshot → P c snapshot

-- the file has the snapshot that is handed in and no record, where the desk told what it held
abbrev pub IsMade : {D : Type 0} → Ghosts D → Journal → List ℕ → D → D → Type 0
IsMade g j framed old new =
    IsTrue (g.tells old) → (snapshot : List ℕ) → IsFramedState framed snapshot → FileHas (file_in j.file (g.state new)) (made j.generation j.number snapshot) j.end

-- the journal of a file just made
abbrev pub made_journal : File → ℕ → ℕ → List ℕ → ℕ → Journal
made_journal file generation number framed limit = record { file = file; generation = generation; end = 21 + length framed; limit = limit; number = number }
