-- What the first bytes of both files say, and what calls that only look at a desk leave.
use Rattle.std.specs.Prelude.{◌≡◌, ℕ, ◌≤◌, ◌<◌, ◌^◌, List, length, take, false, true, Option, None, Some, MatchOption, Result, Ok, MatchResult}
use Rattle.yw_outside.specs.Causes.{Rose}
use Rattle.yw_outside.specs.Image.{file_in}
use Rattle.yw_outside.specs.Since.{LeavesOnly}
use Rattle.yw_outside.specs.declared.desk.Desk.{Ghosts}
use Rattle.yw_outside.specs.declared.desk.File.{File}
use Rattle.yw_outside.specs.declared.image.Image.{Image}
use Rattle.yw_journal.specs.Files.{choice, count_of, greatest, higher, is_live}
use Rattle.yw_snapshot.specs.declared.choosing.Chosen.{Chosen}
use Rattle.yw_snapshot.specs.declared.choosing.OpenFault.{OpenFault}
use Rattle.yw_snapshot.specs.declared.choosing.OpenFault.TheVariants.{Disk, Damaged, Memory}
use Rattle.yw_snapshot.specs.declared.header.Head.{Head}

-- Only reads and syncs came between two states of a desk: it holds what it held, and a crash leaves nothing new.
pub record OnlyLooked {D : Type 0} (g : Ghosts D) (old new : D) : Type 0 where
  pub same : g.state new ≡ g.state old
  pub crash : (c : Image) → g.may_leave new c → g.may_leave old c
  pub moments : LeavesOnly g old new (g.may_leave old)
  pub telling : g.tells new ≡ g.tells old
  pub disk : g.disk_faults old ≤ g.disk_faults new
  pub say : g.say_faults new ≡ g.say_faults old

-- A file's length and its first 30 bytes, where it is live.
pub record IsHeadOf (file : List ℕ) (head : Head) : Type 0 where
  pub live : is_live file ≡ true
  pub size : head.len ≡ length file
  pub bytes : head.bytes ≡ take 30 file

-- the file has a head, and no more bytes than an offset can say
abbrev pub IsSized : Head → Type 0
IsSized head = (30 ≤ head.len) × (head.len < 2 ^ 63)

-- at most so many entries came before its snapshot
abbrev pub IsCounted : Head → Type 0
IsCounted head = count_of head.bytes ≤ greatest

-- what is read of a file's head, which has one where it is live
abbrev pub IsHeadRead : List ℕ → Option Head → Type 0
IsHeadRead file head = MatchOption head (is_live file ≡ false) (IsHeadOf file)

-- Why the opening fails: a call of the files failed, or this damage was found, or no memory was left, and no call had failed.
abbrev pub HasFaultCause : (File → ℕ → Type 0) → ℕ → ℕ → OpenFault → Type 0
HasFaultCause found before now Disk = Rose before now
HasFaultCause found before now (Damaged f place) = found f place × (now ≡ before)
HasFaultCause found before now Memory = now ≡ before

-- under Ok no call of the files failed, and an Err has its cause, by the counts of these desks' faults
abbrev pub HasOpenCause : {D T : Type 0} → Ghosts D → Result T OpenFault → (File → ℕ → Type 0) → D → D → Type 0
HasOpenCause g result found old new = MatchResult result (λ v. g.disk_faults new ≡ g.disk_faults old) (HasFaultCause found (g.disk_faults old) (g.disk_faults new))

-- it has its file's head, where a file is chosen
abbrev pub HasItsHead : Image → Option Chosen → Type 0
HasItsHead i None = Unit {0}
HasItsHead i (Some c) = IsHeadOf (file_in c.file i) c.head

abbrev pub file_of : Option Chosen → Option File
file_of None = None
file_of (Some c) = Some c.file

-- the live file of higher generation, with its head; or none is live
abbrev pub IsChoice : Image → Option Chosen → Type 0
IsChoice i found = (choice i ≡ Ok (file_of found)) × HasItsHead i found

-- of two files whose headers are sound
abbrev pub HigherIs : Image → Option Chosen → Type 0
HigherIs i found = (higher i.a i.b ≡ Ok (file_of found)) × HasItsHead i found
