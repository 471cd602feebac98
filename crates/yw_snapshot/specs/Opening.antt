-- What the opening of the files finds and leaves.
use Rattle.std.specs.Prelude.{◌≡◌, ◌⊎◌, ℕ, ◌+◌, ◌≤◌, ◌<◌, ◌^◌, [], false, length, Some, Result, Ok, Err}
use Rattle.yw_outside.specs.Image.{file_in}
use Rattle.yw_outside.specs.Moments.{IsSettled}
use Rattle.yw_outside.specs.Since.{LeavesOnly}
use Rattle.yw_outside.specs.declared.desk.Desk.{Ghosts}
use Rattle.yw_outside.specs.declared.desk.File.{File}
use Rattle.yw_outside.specs.declared.desk.File.TheVariants.{A}
use Rattle.yw_outside.specs.declared.image.Image.{Image}
use Rattle.yw_journal.specs.Files as files
use Rattle.yw_journal.specs.Files.{Content, HasContent, Holds, NoneIsLive, SnapshotIsCut, choice, count_of, generation_of, greatest, snapshot_of, snapshot_size_of}
use Rattle.yw_journal.specs.Journal.{made}
use Rattle.yw_snapshot.specs.Reading.{StandsIn}
use Rattle.yw_snapshot.specs.declared.choosing.OpenFault.{OpenFault}
use Rattle.yw_snapshot.specs.declared.choosing.OpenFault.TheVariants.{Damaged}
use Rattle.yw_snapshot.specs.declared.opening.Front.{Front}
use Rattle.yw_snapshot.specs.declared.opening.Opening.{Opening}

-- this holds of each damage that is answered
abbrev pub OnDamage : {T : Type 0} → Result T OpenFault → (File → ℕ → Type 0) → Type 0
OnDamage result P = (f : File) (place : ℕ) → result ≡ Err (Damaged f place) → P f place

-- the first damage that the headers and the length of the snapshot show
abbrev pub ShowsDamage : Image → File → ℕ → Type 0
ShowsDamage i f place = (choice i ≡ Err (f, place)) ⊎ ((choice i ≡ Ok (Some f)) × SnapshotIsCut (file_in f i) × (place ≡ 21))

-- The chosen file, and what its header says.
pub record IsFrontIn (front : Front) (i : Image) : Type 0 where
  pub chosen : choice i ≡ Ok (Some front.file)
  pub len : front.len ≡ length (file_in front.file i)
  pub generation : front.generation ≡ generation_of (file_in front.file i)
  pub count : front.count ≡ count_of (file_in front.file i)
  pub size : front.size ≡ snapshot_size_of (file_in front.file i)
  pub ends : 29 + snapshot_size_of (file_in front.file i) ≤ length (file_in front.file i)

-- The snapshot stands within the file, whatever the desk holds.
pub record IsFrontInRange (front : Front) : Type 0 where
  pub ends : 29 + front.size ≤ front.len
  pub bound : front.len < 2 ^ 63
  pub few : front.count ≤ greatest

-- what file A has when it is begun: generation 1, number 0 and no record
abbrev pub begun : Content
begun = made 1 0 []

-- No file was live, and file A is begun; all else is as it was.
pub record IsBegun (i j : Image) : Type 0 where
  pub none : NoneIsLive i
  pub holds : Holds A begun 30 j
  pub b : j.b ≡ i.b
  pub said : j.said ≡ i.said

-- the files are as they were, or file A is begun
abbrev pub StaysOrBegins : Image → Image → Type 0
StaysOrBegins i j = (j ≡ i) ⊎ IsBegun i j

-- The file that is opened is found, in files that are as they were or begun.
pub record IsFoundIn (front : Front) (i j : Image) : Type 0 where
  pub files : StaysOrBegins i j
  pub here : IsFrontIn front j

-- It stands before the first record, with the snapshot.
pub record StartsIn (o : Opening) (i : Image) : Type 0 where
  pub stands : StandsIn o i []
  pub snapshot : o.snapshot ≡ snapshot_of (file_in o.file i)

-- The same of files that are as they were or begun.
pub record IsOpened (o : Opening) (i j : Image) : Type 0 where
  pub files : StaysOrBegins i j
  pub starts : StartsIn o j

-- Nothing is read yet.
pub record IsAtFirst (o : Opening) : Type 0 where
  pub at : o.at ≡ o.first
  pub number : o.number ≡ o.count
  pub done : o.done ≡ false

-- No file was live, and file B is as it was: no file is live, or file A is begun.
pub record HoldsBegun (i k : Image) : Type 0 where
  pub none : NoneIsLive i
  pub holds : HasContent files.opening k ⊎ HasContent begun k
  pub b : k.b ≡ i.b

-- What a crash leaves of the opening after the syncs: each byte of both files as it was, or file A is being begun.
pub record LeftAfterSyncs (i k : Image) : Type 0 where
  pub files : ((k.a ≡ i.a) × (k.b ≡ i.b)) ⊎ HoldsBegun i k
  pub said : k.said ≡ i.said

-- The files aren't synced yet: they are as they were, and a crash leaves what it might have left before.
pub record IsUnsynced {D : Type 0} (g : Ghosts D) (old new : D) : Type 0 where
  pub same : g.state new ≡ g.state old
  pub moments : LeavesOnly g old new (g.may_leave old)

-- First the files are synced, as they were. Up to then a crash leaves what it might have left before, and from then on what has P.
pub record SyncsFirst {D : Type 0} (g : Ghosts D) (P : Image → Type 0) (old new : D) : Type 0 where
  pub synced : D
  pub same : g.state synced ≡ g.state old
  pub settled : IsSettled (g.state synced) (g.may_leave synced)
  pub before : LeavesOnly g old synced (g.may_leave old)
  pub after : LeavesOnly g synced new P

-- from the syncs on a crash leaves the files as they were, or file A being begun
abbrev pub OpensBy : {D : Type 0} → Ghosts D → D → D → Type 0
OpensBy g old new = SyncsFirst g (LeftAfterSyncs (g.state old)) old new
